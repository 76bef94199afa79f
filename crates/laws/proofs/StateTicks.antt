-- Many ticks of the whole state: what the one-tick rule leaves, by closed forms.
use Prim.Native.Nat.{ℕ, zero, suc, ◌+◌, ◌-◌, ◌%◌, ◌^◌, ◌<◌}
use mathlib.Core.Path.{◌≡◌, refl, sym, ◌∙◌, ap, ap₂}
use mathlib.Core.Bool.{Bool, true, false, not, ◌||◌, false≢true, or-true}
use native.Mathlib.Nat.{add-zero, mod-lt}
use native.Mathlib.Omega.{arith}
use lib.Dec.{eqb, lit<}
use borrow.Author.Tests.{ltb-true, le-leb, lt-leb}
use Rattle.laws.proofs.Types.{Channel, State, Conditions}
use Rattle.std.specs.Prelude.{if◌then◌else◌}
use Rattle.rules.specs.State.{timer, with_channels, with_timer}
use Rattle.rules.specs.Registers.{monitor_only, watchdog_code}
use Rattle.rules.specs.Duty.{conditions_of, override_by}
use Rattle.rules.specs.Valid.{valid_of}
use Rattle.rules.specs.Tick.{overridden, idle_limit, timer_tick, delay_of, tick, iterate}
use Rattle.rules.proofs.Tests.{by-test}
use Rattle.laws.proofs.Valid.{parts, valid-watchdog}
use Rattle.laws.proofs.Iterate.{iterate-first, iterate-last, iterate-add}
use Rattle.laws.proofs.Rows.{Row, row_tick, row_ticks, rows_last, rows-fault, row-frozen, rows-frozen}

-- ---- the timer

-- the watchdog counts
abbrev pub counting : State → Bool
counting s = not (eqb (watchdog_code s.registers.control) 0 || s.timer.expired)

-- the clock after k ticks: with no tick as it was, and else a 32-bit number
unfoldable pub clock_at : ℕ → ℕ → ℕ
clock_at t zero = t
clock_at t (suc k) = (t + suc k) % 2 ^ 32

clock-next : (t k : ℕ) → (clock_at t k + 1) % 2 ^ 32 ≡ (t + suc k) % 2 ^ 32
unfolding clock_at
clock-next t zero = refl
clock-next t (suc k) = omega arith

pub clock-wraps : (t k : ℕ) → t < 2 ^ 32 → clock_at t k ≡ (t + k) % 2 ^ 32
unfolding clock_at
clock-wraps t zero h = omega arith
clock-wraps t (suc k) h = refl

-- ---- the overrides

-- an expired watchdog overrides
expired-overrides : (k : Conditions) (ch : Channel) → k.expired ≡ true → overridden k ch ≡ true
unfolding override_by
expired-overrides k ch x =
    by-test (monitor_only ch.config) (λ m. rw m refl)
    (λ m. by-test k.pin
    (λ p. by-test k.standby (λ b. rw (m, p, b) refl) (λ b. rw (m, p, b, x) refl))
    (λ p. rw (m, p) refl))

-- ---- the state, short of the watchdog's limit

-- the wait and the channels of a state; and m ticks of them, under the overrides of now
abbrev pub row_of : State → Row
row_of s = (s.timer.wait, s.channels)

unfoldable pub row_after : ℕ → State → Row
row_after m s = row_ticks (conditions_of s) (delay_of s) m s.timer.clock (row_of s)

-- the state with other channels, wait, clock and idle count
abbrev pub timed : State → Row → ℕ → ℕ → Bool → Bool → State
timed s row clock idle expired status = with_channels (with_timer s (timer clock idle expired status row.0)) row.1

-- a tick, once its steps 1 and 2 are worked out
module _ (s : State) (row : Row) (clock idle next-clock next-idle : ℕ) (expired status next-expired next-status : Bool) (k : Conditions) where
  tick-timed : timer_tick (watchdog_code s.registers.control) (timer clock idle expired status row.0)
      ≡ timer next-clock next-idle next-expired next-status (row.0 - 1) →
      conditions_of (timed s row next-clock next-idle next-expired next-status) ≡ k →
      tick (timed s row clock idle expired status) ≡ timed s (row_tick k (delay_of s) next-clock row) next-clock next-idle next-expired next-status
  unfolding tick row_tick conditions_of
  tick-timed e cond = rw (e, ← cond) refl

module _ (s : State) where
  idle_at : ℕ → ℕ
  idle_at k = if counting s then s.timer.idle + k else s.timer.idle

  -- k ticks that the watchdog does not end
  unfoldable pub ahead : ℕ → State
  unfolding idle_at
  ahead k = timed s (row_after k s) (clock_at s.timer.clock k) (idle_at k) s.timer.expired s.timer.status

  -- the conditions stay
  same-conditions : (k clock idle : ℕ) → conditions_of (timed s (row_after k s) clock idle s.timer.expired s.timer.status) ≡ conditions_of s
  unfolding conditions_of row_after
  same-conditions k clock idle = rw (rows-fault (conditions_of s) (delay_of s) k s.timer.clock (row_of s)) refl

  pub ahead-conditions : (k : ℕ) → conditions_of (ahead k) ≡ conditions_of s
  unfolding ahead
  ahead-conditions k = same-conditions k (clock_at s.timer.clock k) (idle_at k)

  timer-step : (k wait : ℕ) → (counting s ≡ true → s.timer.idle + suc k < idle_limit s) →
      timer_tick (watchdog_code s.registers.control) (timer (clock_at s.timer.clock k) (idle_at k) s.timer.expired s.timer.status wait)
      ≡ timer ((s.timer.clock + suc k) % 2 ^ 32) (idle_at (suc k)) s.timer.expired s.timer.status (wait - 1)
  unfolding timer_tick idle_at
  timer-step k wait h =
      by-test (eqb (watchdog_code s.registers.control) 0 || s.timer.expired)
      (λ e. rw (e, clock-next s.timer.clock k) refl)
      (λ e. let l = h (rw e refl) in
      let i : s.timer.idle + k + 1 ≡ s.timer.idle + suc k = omega arith in
      rw (e, clock-next s.timer.clock k, i, lt-leb _ _ l) refl)

  ahead_step : (k : ℕ) → (counting s ≡ true → s.timer.idle + suc k < idle_limit s) → tick (ahead k) ≡ ahead (suc k)
  unfolding ahead clock_at row_after
  ahead_step k h =
      let clock = (s.timer.clock + suc k) % 2 ^ 32 in
      tick-timed s (row_after k s) _ _ clock (idle_at (suc k)) s.timer.expired s.timer.status s.timer.expired s.timer.status (conditions_of s)
      (timer-step k (row_after k s).0 h) (same-conditions k clock (idle_at (suc k)))
      ∙ ap (λ row. timed s row clock (idle_at (suc k)) s.timer.expired s.timer.status)
      (sym (rows_last (conditions_of s) (delay_of s) k s.timer.clock (row_of s)))

  ahead_none : ahead 0 ≡ s
  unfolding ahead row_after row_ticks clock_at idle_at
  ahead_none =
      let i : (if counting s then s.timer.idle + 0 else s.timer.idle) ≡ s.timer.idle =
      by-test (counting s) (λ e. rw (e, add-zero)) (λ e. rw e refl) in
      rw i refl

  pub ticks-ahead : (k : ℕ) → (counting s ≡ true → s.timer.idle + k < idle_limit s) → iterate k tick s ≡ ahead k
  ticks-ahead zero h = unfold iterate in sym ahead_none
  ticks-ahead (suc k) h = iterate-last tick k s ∙ ap tick (ticks-ahead k (λ c. omega (arith, h c))) ∙ ahead_step k h

-- ---- any number of ticks

-- the watchdog does not count: it is off, or it has expired
pub free-ticks : (n : ℕ) (s : State) → s.timer.clock < 2 ^ 32 → counting s ≡ false →
    iterate n tick s ≡ timed s (row_after n s) ((s.timer.clock + n) % 2 ^ 32) s.timer.idle s.timer.expired s.timer.status
unfolding ahead idle_at
free-ticks n s fits f =
    ticks-ahead s n (λ c. absurd (false≢true (sym f ∙ c))) ∙ rw (clock-wraps s.timer.clock n fits, f) refl

-- it counts, and stays short of its limit
pub counting-ticks : (n : ℕ) (s : State) → s.timer.clock < 2 ^ 32 → counting s ≡ true →
    s.timer.idle + n < idle_limit s →
    iterate n tick s ≡ timed s (row_after n s) ((s.timer.clock + n) % 2 ^ 32) (s.timer.idle + n) s.timer.expired s.timer.status
unfolding ahead idle_at
counting-ticks n s fits c l = ticks-ahead s n (λ e. l) ∙ rw (clock-wraps s.timer.clock n fits, c) refl

-- an expired watchdog freezes all but the clock and the wait
frozen-ticks : (s : State) → s.timer.expired ≡ true → (m : ℕ) → row_after m s ≡ (s.timer.wait - m, s.channels)
unfolding row_after conditions_of
frozen-ticks s x m = rows-frozen (conditions_of s) (delay_of s) (λ ch. expired-overrides (conditions_of s) ch x) m s.timer.clock (row_of s)

pub counting-live : (s : State) → counting s ≡ true → (eqb (watchdog_code s.registers.control) 0 ≡ false) × (s.timer.expired ≡ false)
counting-live s c = neither (eqb (watchdog_code s.registers.control) 0) s.timer.expired c
  where
    neither : (a b : Bool) → not (a || b) ≡ true → (a ≡ false) × (b ≡ false)
    neither true b e = absurd (false≢true e)
    neither false true e = absurd (false≢true e)
    neither false false e = (refl, refl)

pub counting-below : (s : State) → valid_of s ≡ true → counting s ≡ true → s.timer.idle < idle_limit s
counting-below s v c =
    let l = counting-live s c in
    ltb-true _ _ (rw (l.0, l.1) at (valid-watchdog (watchdog_code s.registers.control) s.timer (parts s v).timer))

-- it counts, and reaches its limit: the tick in which it expires is already frozen
module _ (s : State) (c : counting s ≡ true) (below : s.timer.idle < idle_limit s) where
  -- the ticks before that one
  abbrev room : ℕ
  room = idle_limit s - s.timer.idle - 1

  -- the state r ticks after that one
  abbrev over : ℕ → ℕ → State
  over r clock = timed s ((row_after room s).0 - suc r, (row_after room s).1) clock (idle_limit s) true true

  expiry : (wait : ℕ) → timer_tick (watchdog_code s.registers.control) (timer (clock_at s.timer.clock room) (idle_at s room) s.timer.expired s.timer.status wait)
      ≡ timer ((s.timer.clock + suc room) % 2 ^ 32) (idle_limit s) true true (wait - 1)
  unfolding timer_tick idle_at
  expiry wait =
      let l = counting-live s c in
      let limit = idle_limit s in
      let i : s.timer.idle + room + 1 ≡ limit = omega arith in
      rw (l.0, l.1, clock-next s.timer.clock room, i, le-leb limit limit (omega arith)) refl

  expires : tick (ahead s room) ≡ over 0 ((s.timer.clock + suc room) % 2 ^ 32)
  unfolding ahead
  expires =
      let clock = (s.timer.clock + suc room) % 2 ^ 32 in
      let k = conditions_of (timed s (row_after room s) clock (idle_limit s) true true) in
      tick-timed s (row_after room s) _ _ clock (idle_limit s) s.timer.expired s.timer.status true true k (expiry (row_after room s).0) refl
      ∙ ap (λ row. timed s row clock (idle_limit s) true true)
      (row-frozen k (delay_of s) (λ ch. expired-overrides k ch (unfold conditions_of in refl)) clock (row_after room s))

  pub expiring-ticks : (n : ℕ) → room < n → iterate n tick s ≡ over (n - suc room) ((s.timer.clock + n) % 2 ^ 32)
  expiring-ticks n h =
      let r = n - suc room in
      let e : n ≡ room + suc r = omega arith in
      let first = (s.timer.clock + suc room) % 2 ^ 32 in
      let k : (first + r) % 2 ^ 32 ≡ (s.timer.clock + n) % 2 ^ 32 = omega arith in
      let w : (row_after room s).0 - 1 - r ≡ (row_after room s).0 - suc r = omega arith in
      ap (λ m. iterate m tick s) e
      ∙ iterate-add tick room (suc r) s
      ∙ ap (iterate (suc r) tick) (ticks-ahead s room (λ _. omega arith))
      ∙ iterate-first tick r (ahead s room)
      ∙ ap (iterate r tick) expires
      ∙ free-ticks r (over 0 first) (mod-lt _ (lit< tt)) (ap not (or-true (eqb (watchdog_code s.registers.control) 0)))
      ∙ ap (λ row. timed s row ((first + r) % 2 ^ 32) (idle_limit s) true true) (frozen-ticks (over 0 first) refl r)
      ∙ ap₂ (λ wait clock. timed s (wait, (row_after room s).1) clock (idle_limit s) true true) w k
