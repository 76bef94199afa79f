-- Many ticks of one channel: what the one-tick rule leaves, by closed forms.
use Prim.Native.Nat.{ℕ, zero, suc, ◌+◌, ◌-◌, ◌%◌, ◌^◌, ◌≤◌, ◌<◌}
use mathlib.Core.Path.{◌≡◌, refl, sym, ◌∙◌, ap}
use mathlib.Core.Bool.{Bool, true, false, ◌&&◌}
use native.Mathlib.Nat.{add-zero, zero-add, suc-add, sub-zero}
use native.Mathlib.Omega.{arith}
use lib.Dec.{ltb, eqb}
use lib.Pow.{pow-add, pow_pos}
use borrow.Author.Tests.{ltb-true, eqb-true, eqb-false, lt-ltb, le-ltb, eq-eqb, ne_eqb}
use Rattle.laws.proofs.Types.{Channel}
use Rattle.std.specs.Prelude.{if◌then◌else◌}
use Rattle.rules.specs.State.{with_motion, with_ramp}
use Rattle.rules.specs.Registers.{spin_code, rate_code, asymmetric}
use Rattle.rules.specs.Time.{spin_ticks, rate_period}
use Rattle.rules.specs.Tick.{wanted, period_of, spin_up_due, toward, spin_left, channel_tick}
use Rattle.rules.proofs.Tests.{by-test}
use Rattle.laws.proofs.Ramp.{approach, multiples, approach-none, approach-there, toward-there, approach-zero, approach-side, multiples-grow, multiples-none, step-on-the-way, wrap-keeps-remainder}

-- step 3 of the rule for one channel, m ticks long, at the clocks t + 1, t + 2, .., each a 32-bit number
unfoldable pub channel_ticks : Bool → ℕ → ℕ → Channel → Channel
channel_ticks held zero t ch = ch
channel_ticks held (suc m) t ch = channel_ticks held m (t + 1) (channel_tick held ((t + 1) % 2 ^ 32) ch)

module _ (held : Bool) where
  -- the last one split off
  pub ticks-last : (m t : ℕ) (ch : Channel) →
      channel_ticks held (suc m) t ch ≡ channel_tick held ((t + suc m) % 2 ^ 32) (channel_ticks held m t ch)
  unfolding channel_ticks
  ticks-last zero t ch = refl
  ticks-last (suc m) t ch =
      let e : t + 1 + suc m ≡ t + suc (suc m) = omega arith in
      let next = channel_tick held ((t + 1) % 2 ^ 32) ch in
      ticks-last m (t + 1) next ∙ ap (λ c. channel_tick held (c % 2 ^ 32) (channel_ticks held m (t + 1) next)) e

  -- some, and then some more
  ticks-add : (a b t : ℕ) (ch : Channel) → channel_ticks held (a + b) t ch ≡ channel_ticks held b (t + a) (channel_ticks held a t ch)
  unfolding channel_ticks
  ticks-add zero b t ch = rw (zero-add, add-zero) refl
  ticks-add (suc a) b t ch =
      let e : t + 1 + a ≡ t + suc a = omega arith in
      let next = channel_tick held ((t + 1) % 2 ^ 32) ch in
      rw suc-add (ticks-add a b (t + 1) next ∙ ap (λ c. channel_ticks held b c (channel_ticks held a (t + 1) next)) e)

-- under an override nothing changes
pub ticks-held : (m t : ℕ) (ch : Channel) → channel_ticks true m t ch ≡ ch
unfolding channel_ticks channel_tick
ticks-held zero t ch = refl
ticks-held (suc m) t ch = ticks-held m (t + 1) ch

-- ticks change nothing of a channel but its motion
abbrev Moved : Channel → Channel → Type 0
Moved ch next = (ramp : ℕ) × (spin : ℕ) × (pulses : ℕ) × (next ≡ with_motion ch ramp spin pulses)

pub tick-moves : (held : Bool) (c : ℕ) (ch : Channel) → Moved ch (channel_tick held c ch)
unfolding channel_tick
tick-moves true c ch = (ch.ramp, ch.spin, ch.pulses, refl)
tick-moves false c ch =
    by-test (ltb 0 ch.spin) (λ e. (ch.ramp, ch.spin - 1, (if eqb (ch.spin - 1) 0 then 0 else ch.pulses), rw e refl))
    (λ e. by-test (spin_up_due ch) (λ d. (511, spin_ticks (spin_code ch.config), 0, rw (e, d) refl))
    (λ d. by-test (eqb (rate_code ch.dynamics) 0) (λ r. (wanted ch, ch.spin, ch.pulses, rw (e, d, r) refl))
    (λ r. by-test (eqb (c % period_of ch) 0)
    (λ m. (toward ch.ramp (wanted ch), ch.spin, ch.pulses, rw (e, d, r, m) refl))
    (λ m. (ch.ramp, ch.spin, ch.pulses, rw (e, d, r, m) refl)))))

pub ticks-move : (held : Bool) (m t : ℕ) (ch : Channel) → Moved ch (channel_ticks held m t ch)
ticks-move held zero t ch = (ch.ramp, ch.spin, ch.pulses, unfold channel_ticks in refl)
ticks-move held (suc m) t ch =
    let a = ticks-move held m t ch in
    let b = tick-moves held ((t + suc m) % 2 ^ 32) (with_motion ch a.0 a.1 a.2) in
    (b.0, b.1, b.2, ticks-last held m t ch ∙ ap (channel_tick held ((t + suc m) % 2 ^ 32)) a.3 ∙ b.3)

-- ---- the period

-- it is a power of two that divides the clock's range
period-log : (ch : Channel) → (j : ℕ) × (j ≤ 32) × (period_of ch ≡ 2 ^ j)
period-log ch =
    by-test (asymmetric ch.dynamics && ltb (wanted ch) ch.ramp)
    (λ e. (1 + (rate_code ch.dynamics - 1), omega arith, rw e (sym (pow-add 2 1 (rate_code ch.dynamics - 1)))))
    (λ e. (rate_code ch.dynamics - 1, omega arith, rw e refl))

pub period-pos : (ch : Channel) → 0 < period_of ch
period-pos ch = let l = period-log ch in rw l.2 (pow_pos l.0)

period-wrap : (ch : Channel) (x : ℕ) → x % 2 ^ 32 % period_of ch ≡ x % period_of ch
period-wrap ch x = let l = period-log ch in rw l.2 (wrap-keeps-remainder l.0 x l.1)

-- ---- a channel that neither spins up nor is due to

-- what a channel moves to stays as it was while it moves there, and once it is there
pub wanted-on-the-way : (ch : Channel) (n : ℕ) → wanted (with_ramp ch (approach ch.ramp (wanted ch) n)) ≡ wanted ch
unfolding wanted
wanted-on-the-way ch n = refl

pub wanted-there : (ch : Channel) → wanted (with_ramp ch (wanted ch)) ≡ wanted ch
unfolding wanted
wanted-there ch = refl

-- spin-up does not come due on the way
not-due : (ch : Channel) (q : ℕ) → wanted (with_ramp ch q) ≡ wanted ch → spin_up_due ch ≡ false →
    (q ≡ 0 → 0 < wanted ch → ch.ramp ≡ 0) → spin_up_due (with_ramp ch q) ≡ false
unfolding spin_up_due
not-due ch q same d h =
    rw same
    (by-test (eqb q 0)
    (λ e. by-test (ltb 0 (wanted ch))
    (λ l. rw (e, l) (rw (eq-eqb _ _ (h (eqb-true _ _ e) (ltb-true _ _ l)), l) at d))
    (λ l. rw (e, l) refl))
    (λ e. rw e refl))

module _ (c : ℕ) (ch : Channel) (z : ch.spin ≡ 0) (d : spin_up_due ch ≡ false) where
  tick-at-once : rate_code ch.dynamics ≡ 0 → channel_tick false c ch ≡ with_ramp ch (wanted ch)
  unfolding channel_tick
  tick-at-once r = rw (le-ltb 0 ch.spin (omega arith), d, eq-eqb _ _ r) refl

  tick-ramps : (rate_code ch.dynamics ≡ 0 → ⊥) →
      channel_tick false c ch ≡ with_ramp ch (if eqb (c % period_of ch) 0 then toward ch.ramp (wanted ch) else ch.ramp)
  unfolding channel_tick
  tick-ramps r =
      rw (le-ltb 0 ch.spin (omega arith), d, ne_eqb _ _ r)
      (by-test (eqb (c % period_of ch) 0) (λ e. rw e refl) (λ e. rw e refl))

-- the ramp value k ticks after clock t
abbrev pub ramped_by : ℕ → ℕ → Channel → ℕ
ramped_by t k ch = approach ch.ramp (wanted ch) (multiples (period_of ch) t k)

-- one tick more: the period stays that of the way, until the target is reached and it no longer matters
module _ (ch : Channel) (t k : ℕ) where
  abbrev moved : Channel
  moved = with_ramp ch (ramped_by t k ch)

  abbrev stepped : ℕ
  stepped =
      if eqb ((t + suc k) % 2 ^ 32 % period_of moved) 0 then toward (ramped_by t k ch) (wanted ch)
      else ramped_by t k ch

  step-there : ramped_by t k ch ≡ wanted ch → stepped ≡ ramped_by t (suc k) ch
  step-there e =
      rw (approach-there ch.ramp (wanted ch) _ (multiples (period_of ch) t (suc k)) (multiples-grow (period_of ch) (period-pos ch) t k) e)
      (by-test (eqb ((t + suc k) % 2 ^ 32 % period_of moved) 0)
      (λ h. rw h (toward-there ch.ramp (wanted ch) (multiples (period_of ch) t k) e))
      (λ h. rw h e))

  step-away : (ramped_by t k ch ≡ wanted ch → ⊥) → stepped ≡ ramped_by t (suc k) ch
  step-away ne =
      let side = approach-side ch.ramp (wanted ch) (multiples (period_of ch) t k) ne in
      let goal = wanted-on-the-way ch (multiples (period_of ch) t k) in
      let same : period_of moved ≡ period_of ch =
      ap (λ b. rate_period (rate_code ch.dynamics) (asymmetric ch.dynamics && b)) (ap (λ n. ltb n (ramped_by t k ch)) goal ∙ side) in
      rw (same, period-wrap ch (t + suc k)) (step-on-the-way (period_of ch) (period-pos ch) ch.ramp (wanted ch) t k)

  ramp-step : stepped ≡ ramped_by t (suc k) ch
  ramp-step = by-test (eqb (ramped_by t k ch) (wanted ch)) (λ e. step-there (eqb-true _ _ e)) (λ e. step-away (eqb-false _ _ e))

-- no spin-up running or due: with rate code 0 at the target after the first tick, else on the way
module _ (t : ℕ) (ch : Channel) (z : ch.spin ≡ 0) (d : spin_up_due ch ≡ false) where
  pub ticks-at-once : (m : ℕ) → rate_code ch.dynamics ≡ 0 → channel_ticks false (suc m) t ch ≡ with_ramp ch (wanted ch)
  ticks-at-once zero r = ticks-last false zero t ch ∙ (unfold channel_ticks in tick-at-once _ ch z d r)
  ticks-at-once (suc m) r =
      let there = with_ramp ch (wanted ch) in
      ticks-last false (suc m) t ch ∙ ap (channel_tick false ((t + suc (suc m)) % 2 ^ 32)) (ticks-at-once m r)
      ∙ tick-at-once _ there z (not-due ch (wanted ch) (wanted-there ch) d (λ e l. absurd (omega arith))) r
      ∙ ap (with_ramp ch) (wanted-there ch)

  pub ticks-ramp : (m : ℕ) → (rate_code ch.dynamics ≡ 0 → ⊥) → channel_ticks false m t ch ≡ with_ramp ch (ramped_by t m ch)
  ticks-ramp zero r =
      unfold channel_ticks in
      ap (with_ramp ch) (sym (rw multiples-none (approach-none ch.ramp (wanted ch))))
  ticks-ramp (suc m) r =
      let goal = wanted-on-the-way ch (multiples (period_of ch) t m) in
      let moved = with_ramp ch (ramped_by t m ch) in
      ticks-last false m t ch ∙ ap (channel_tick false ((t + suc m) % 2 ^ 32)) (ticks-ramp m r)
      ∙ tick-ramps _ moved z (not-due ch _ goal d (approach-zero ch.ramp (wanted ch) (multiples (period_of ch) t m))) r
      ∙ ap (λ n. with_ramp ch (if eqb ((t + suc m) % 2 ^ 32 % period_of moved) 0 then toward (ramped_by t m ch) n else ramped_by t m ch)) goal
      ∙ ap (with_ramp ch) (ramp-step ch t m)

-- ---- a channel that spins up, or is due to

-- so many ticks left are those that it has; and one fewer. Pulses are counted only while some are left
left-now : (ch : Channel) → ch.pulses ≤ ch.spin → spin_left ch ch.spin ≡ ch
left-now ch few =
    by-test (eqb ch.spin 0)
    (λ e. let none : 0 ≡ ch.pulses = omega (arith, eqb-true ch.spin 0 e) in rw e (ap (with_motion ch ch.ramp ch.spin) none))
    (λ e. rw e refl)

spin-step : (c left : ℕ) (ch : Channel) → channel_tick false c (spin_left ch (suc left)) ≡ spin_left ch left
unfolding channel_tick
spin-step c left ch =
    let some : suc left ≡ 0 → ⊥ = λ z. omega arith in
    let e : suc left - 1 ≡ left = omega arith in
    rw (ne_eqb (suc left) 0 some, lt-ltb 0 (suc left) (omega arith), e) refl

-- up to the end of the running spin-up, short of it, and past it
pub ticks-spin : (m t : ℕ) (ch : Channel) → ch.pulses ≤ ch.spin → m ≤ ch.spin → channel_ticks false m t ch ≡ spin_left ch (ch.spin - m)
ticks-spin zero t ch few l = unfold channel_ticks in sym (ap (spin_left ch) (sub-zero ch.spin) ∙ left-now ch few)
ticks-spin (suc m) t ch few l =
    let e : ch.spin - m ≡ suc (ch.spin - suc m) = omega arith in
    ticks-last false m t ch
    ∙ ap (channel_tick false ((t + suc m) % 2 ^ 32)) (ticks-spin m t ch few (omega arith) ∙ ap (spin_left ch) e)
    ∙ spin-step _ (ch.spin - suc m) ch

pub ticks-within : (m t : ℕ) (ch : Channel) → ch.pulses ≤ ch.spin → m < ch.spin →
    channel_ticks false m t ch ≡ with_motion ch ch.ramp (ch.spin - m) ch.pulses
ticks-within m t ch few l =
    let some : ch.spin - m ≡ 0 → ⊥ = λ z. omega arith in
    ticks-spin m t ch few (omega arith) ∙ rw (ne_eqb (ch.spin - m) 0 some) refl

pub ticks-past : (m t : ℕ) (ch : Channel) → ch.pulses ≤ ch.spin → ch.spin ≤ m →
    channel_ticks false m t ch ≡ channel_ticks false (m - ch.spin) (t + ch.spin) (spin_left ch 0)
ticks-past m t ch few l =
    let e : m ≡ ch.spin + (m - ch.spin) = omega arith in
    let z : ch.spin - ch.spin ≡ 0 = omega arith in
    ap (λ n. channel_ticks false n t ch) e ∙ ticks-add false ch.spin (m - ch.spin) t ch
    ∙ ap (channel_ticks false (m - ch.spin) (t + ch.spin)) (ticks-spin ch.spin t ch few (omega arith) ∙ ap (spin_left ch) z)

-- the first tick of one that is due starts it
module _ (m t : ℕ) (ch : Channel) (z : ch.spin ≡ 0) (d : spin_up_due ch ≡ true) (some : 0 < m) where
  abbrev time : ℕ
  time = spin_ticks (spin_code ch.config)

  starts : (c : ℕ) → channel_tick false c ch ≡ with_motion ch 511 time 0
  unfolding channel_tick
  starts c = rw (le-ltb 0 ch.spin (omega arith), d) refl

  ticks-due : channel_ticks false m t ch ≡ channel_ticks false (m - 1) (t + 1) (with_motion ch 511 time 0)
  ticks-due =
      let e : m ≡ suc (m - 1) = omega arith in
      ap (λ n. channel_ticks false n t ch) e ∙ (unfold channel_ticks in ap (channel_ticks false (m - 1) (t + 1)) (starts ((t + 1) % 2 ^ 32)))

  -- no pulse is counted, so none is left when it ends
  left-of-none : (n : ℕ) → spin_left (with_motion ch 511 time 0) n ≡ with_motion ch 511 n 0
  left-of-none n = by-test (eqb n 0) (λ e. rw e refl) (λ e. rw e refl)

  pub ticks-due-within : m - 1 ≤ time → channel_ticks false m t ch ≡ with_motion ch 511 (time - (m - 1)) 0
  ticks-due-within l =
      ticks-due ∙ ticks-spin (m - 1) (t + 1) (with_motion ch 511 time 0) (omega arith) l ∙ left-of-none (time - (m - 1))

  pub ticks-due-past : time ≤ m - 1 →
      channel_ticks false m t ch ≡ channel_ticks false (m - 1 - time) (t + 1 + time) (with_motion ch 511 ch.spin 0)
  ticks-due-past l =
      ticks-due ∙ ticks-past (m - 1) (t + 1) (with_motion ch 511 time 0) (omega arith) l
      ∙ ap (λ n. channel_ticks false (m - 1 - time) (t + 1 + time) (with_motion ch 511 n 0)) (sym z)

pub full-not-due : (ch : Channel) (spin pulses : ℕ) → spin_up_due (with_motion ch 511 spin pulses) ≡ false
unfolding spin_up_due
full-not-due ch spin pulses = refl
