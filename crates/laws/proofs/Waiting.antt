-- The channels that wait to leave ramp value 0, and those that do not: many ticks of one, by the closed form of a channel by itself.
use Prim.Native.Nat.{ℕ, zero, suc, ◌+◌, ◌-◌, ◌%◌, ◌^◌, ◌<◌}
use mathlib.Core.Path.{◌≡◌, refl, sym, ◌∙◌, ap, ap₂}
use mathlib.Core.Bool.{Bool, true, false, not, ◌&&◌, false≢true}
use mathlib.Core.List.{List, [], ◌∷◌, map}
use native.Mathlib.Nat.{add-zero, sub-zero}
use native.Mathlib.Omega.{arith}
use lib.Dec.{leb, ltb, eqb}
use lib.ListN.{length, get_or, replicate}
use borrow.Author.Tests.{ltb-true, ltb-false, eqb-true, lt-ltb, le-ltb, eq-eqb, ne_eqb, not-true}
use Rattle.laws.proofs.Types.{Channel, Conditions}
use Rattle.std.specs.Prelude.{if◌then◌else◌}
use Rattle.rules.specs.Basics.{◌implies◌, every}
use Rattle.rules.specs.State.{blank}
use Rattle.rules.specs.Registers.{spin_code, rate_code, asymmetric}
use Rattle.rules.specs.Duty.{override_by}
use Rattle.rules.specs.Valid.{valid_channel}
use Rattle.rules.specs.Tick.{wanted, period_of, spin_up_due, overridden, toward, channel_tick, rule_at, leaves_zero}
use Rattle.rules.proofs.Tests.{and_left, and_right, by-test, choice, every-weaker}
use Rattle.laws.proofs.Valid.{channel-parts, four}
use Rattle.laws.proofs.Ramp.{wrap-keeps-remainder}
use Rattle.laws.proofs.ChannelTicks.{channel_ticks, tick-moves, ticks-last, ticks-move, wanted-there}

-- at ramp value 0 below its target, with no override in force: it leaves when its period and the shared wait let it
unfoldable pub waits : Conditions → Channel → Bool
waits k ch = eqb ch.ramp 0 && ltb 0 (wanted ch) && not (overridden k ch)

record Waits (k : Conditions) (ch : Channel) : Type 0 where
  low : ch.ramp ≡ 0
  goal : 0 < wanted ch
  free : overridden k ch ≡ false

waits-parts : (k : Conditions) (ch : Channel) → waits k ch ≡ true → Waits k ch
unfolding waits
waits-parts k ch e =
    let two = and_left (eqb ch.ramp 0 && ltb 0 (wanted ch)) _ e in
    record {
      low = eqb-true _ 0 (and_left _ _ two);
      goal = ltb-true 0 _ (and_right (eqb ch.ramp 0) _ two);
      free = not-true _ (and_right (eqb ch.ramp 0 && ltb 0 (wanted ch)) _ e);
    }

-- ticks change nothing that an override looks at
overridden-ticks : (k : Conditions) (held : Bool) (m t : ℕ) (ch : Channel) →
    overridden k (channel_ticks held m t ch) ≡ overridden k ch
unfolding override_by
overridden-ticks k held m t ch = rw (ticks-move held m t ch).3 refl

pub overridden-rule : (k : Conditions) (c : ℕ) (ch : Channel) → overridden k (rule_at k c ch) ≡ overridden k ch
unfolding override_by
overridden-rule k c ch = rw (tick-moves (overridden k ch) c ch).3 refl

-- ---- a channel that does not wait

-- at 0 only with target 0
abbrev Away : Channel → Type 0
Away ch = ch.ramp ≡ 0 → wanted ch ≡ 0

away : (k : Conditions) (ch : Channel) → waits k ch ≡ false → overridden k ch ≡ false → Away ch
unfolding waits
away k ch none free z =
    by-test (ltb 0 (wanted ch))
    (λ l. absurd (false≢true (sym none ∙ rw (eq-eqb _ 0 z, l, free) refl)))
    (λ l. omega (arith, ltb-false 0 (wanted ch) l))

none-away : (k : Conditions) (ch : Channel) → Away ch → waits k ch ≡ false
unfolding waits
none-away k ch a =
    by-test (eqb ch.ramp 0)
    (λ e. let z = a (eqb-true _ 0 e) in rw (e, le-ltb 0 (wanted ch) (omega arith)) refl)
    (λ e. rw e refl)

none-overridden : (k : Conditions) (ch : Channel) → overridden k ch ≡ true → waits k ch ≡ false
unfolding waits
none-overridden k ch o =
    rw o (by-test (eqb ch.ramp 0 && ltb 0 (wanted ch)) (λ e. rw e refl) (λ e. rw e refl))

toward_zero : (x goal : ℕ) → (x ≡ 0 → goal ≡ 0) → toward x goal ≡ 0 → goal ≡ 0
unfolding toward
toward_zero x goal h e =
    by-test (ltb x goal)
    (λ l. absurd (omega (arith, rw l at e)))
    (λ l. by-test (ltb goal x) (λ m. omega (arith, ltb-true goal x m, rw (l, m) at e)) (λ m. h (rw (l, m) at e)))

toward-same : (x goal : ℕ) → x ≡ 0 → goal ≡ 0 → toward x goal ≡ 0
unfolding toward
toward-same x goal e z = rw (e, z) refl

toward-one : (x goal : ℕ) → x ≡ 0 → 0 < goal → toward x goal ≡ 1
unfolding toward
toward-one x goal e l = rw (e, lt-ltb 0 goal l) refl

due-not : (ch : Channel) → wanted ch ≡ 0 → spin_up_due ch ≡ true → ⊥
unfolding spin_up_due
due-not ch z d =
    let l = ltb-true 0 (wanted ch) (and_right (eqb ch.ramp 0) _ (and_left (eqb ch.ramp 0 && ltb 0 (wanted ch)) _ d)) in
    omega arith

free-away : (c : ℕ) (ch : Channel) → Away ch → Away (channel_tick false c ch)
unfolding channel_tick wanted
free-away c ch a =
    choice Away (ltb 0 ch.spin) _ _ (λ _. a) λ _.
    choice Away (spin_up_due ch) _ _ (λ _ e. absurd (omega arith)) λ _.
    choice Away (eqb (rate_code ch.dynamics) 0) _ _ (λ _ e. wanted-there ch ∙ e) λ _.
    choice Away (eqb (c % period_of ch) 0) _ _ (λ _. toward_zero ch.ramp (wanted ch) a) (λ _. a)

stays-zero : (c : ℕ) (ch : Channel) → ch.ramp ≡ 0 → wanted ch ≡ 0 → (channel_tick false c ch).ramp ≡ 0
unfolding channel_tick
stays-zero c ch r z =
    choice Low (ltb 0 ch.spin) _ _ (λ _. r) λ _.
    choice Low (spin_up_due ch) _ _ (λ d. absurd (due-not ch z d)) λ _.
    choice Low (eqb (rate_code ch.dynamics) 0) _ _ (λ _. z) λ _.
    choice Low (eqb (c % period_of ch) 0) _ _ (λ _. toward-same ch.ramp (wanted ch) r z) (λ _. r)
  where
    Low : Channel → Type 0
    Low x = x.ramp ≡ 0

module _ (k : Conditions) (ch : Channel) (none : waits k ch ≡ false) where
  -- it does not leave 0
  pub not-leaving : (c : ℕ) → leaves_zero (rule_at k c) ch ≡ false
  unfolding leaves_zero
  not-leaving c =
      by-test (eqb ch.ramp 0)
      (λ e. let z = eqb-true ch.ramp 0 e in
      let still : (rule_at k c ch).ramp ≡ 0 =
      by-test (overridden k ch)
      (λ o. rw o (unfold channel_tick in z))
      (λ o. rw o (stays-zero c ch z (away k ch none o z))) in
      rw (e, still) refl)
      (λ e. rw e refl)

  -- it waits no tick later either
  pub still-none : (c : ℕ) → waits k (rule_at k c ch) ≡ false
  still-none c =
      by-test (overridden k ch)
      (λ o. none-overridden k _ (overridden-rule k c ch ∙ o))
      (λ o. none-away k _ (rw o (free-away c ch (away k ch none o))))

-- its ticks are those of the channel by itself
abbrev pub alone : Conditions → ℕ → ℕ → Channel → Channel
alone k m t ch = channel_ticks (overridden k ch) m t ch

pub alone-last : (k : Conditions) (m t : ℕ) (ch : Channel) → rule_at k ((t + suc m) % 2 ^ 32) (alone k m t ch) ≡ alone k (suc m) t ch
alone-last k m t ch =
    ap (λ b. channel_tick b ((t + suc m) % 2 ^ 32) (alone k m t ch)) (overridden-ticks k (overridden k ch) m t ch)
    ∙ sym (ticks-last (overridden k ch) m t ch)

pub alone-none : (k : Conditions) (m t : ℕ) (ch : Channel) → waits k ch ≡ false → waits k (alone k m t ch) ≡ false
alone-none k zero t ch none = unfold channel_ticks in none
alone-none k (suc m) t ch none =
    sym (ap (waits k) (alone-last k m t ch)) ∙ still-none k (alone k m t ch) (alone-none k m t ch none) ((t + suc m) % 2 ^ 32)

-- ---- a channel that waits

-- the clocks at which it would leave are the multiples of a power of two: of 1 by a spin-up or with rate code 0, else of its period
unfoldable pub start_shift : Channel → ℕ
start_shift ch = if ltb 0 (spin_code ch.config) then 0 else rate_code ch.dynamics - 1

start-shift-lt : (ch : Channel) → start_shift ch < 8
unfolding start_shift
start-shift-lt ch = choice (λ n. n < 8) (ltb 0 (spin_code ch.config)) 0 (rate_code ch.dynamics - 1) (λ _. omega arith) (λ _. omega arith)

pub start-shift-wrap : (ch : Channel) (x : ℕ) → x % 2 ^ 32 % 2 ^ start_shift ch ≡ x % 2 ^ start_shift ch
start-shift-wrap ch x = wrap-keeps-remainder (start_shift ch) x (omega (arith, start-shift-lt ch))

module _ (k : Conditions) (ch : Channel) (w : waits k ch ≡ true) (rests : ch.spin ≡ 0) where
  due-is : spin_up_due ch ≡ ltb 0 (spin_code ch.config)
  unfolding spin_up_due
  due-is = rw (eq-eqb _ 0 (waits-parts k ch w).low, lt-ltb 0 (wanted ch) (waits-parts k ch w).goal) refl

  -- what a tick makes of it, where the clocks at which it leaves are the multiples of q
  record Ticked (c q : ℕ) (next : Channel) : Type 0 where
    leaves : ltb 0 next.ramp ≡ eqb (c % q) 0
    stays : eqb (c % q) 0 ≡ false → next ≡ ch

  at_once : (c : ℕ) (next : Channel) → ltb 0 next.ramp ≡ true → Ticked c 1 next
  at_once c next l =
      let one : eqb (c % 1) 0 ≡ true = eq-eqb (c % 1) 0 (omega arith) in
      record { leaves = l ∙ sym one; stays = λ e. absurd (false≢true (sym e ∙ one)) }

  -- its period, as it does not fall
  period-is : 2 ^ (rate_code ch.dynamics - 1) ≡ period_of ch
  period-is =
      let rises : ltb (wanted ch) ch.ramp ≡ false = le-ltb (wanted ch) ch.ramp (omega (arith, (waits-parts k ch w).low)) in
      rw rises (by-test (asymmetric ch.dynamics) (λ e. rw e refl) (λ e. rw e refl))

  ticked : (c : ℕ) → Ticked c (2 ^ start_shift ch) (channel_tick false c ch)
  unfolding channel_tick start_shift
  ticked c =
      let w = waits-parts k ch w in
      rw (le-ltb 0 ch.spin (omega arith), due-is)
      (by-test (ltb 0 (spin_code ch.config))
      (λ s. rw s (at_once c _ refl))
      (λ s. by-test (eqb (rate_code ch.dynamics) 0)
      (λ r. let none : rate_code ch.dynamics - 1 ≡ 0 = omega (arith, eqb-true (rate_code ch.dynamics) 0 r) in
      rw (s, r, none) (at_once c _ (lt-ltb 0 (wanted ch) w.goal)))
      (λ r. by-test (eqb (c % period_of ch) 0)
      (λ m. rw (s, r, m, period-is) (record { leaves = ap (ltb 0) (toward-one ch.ramp (wanted ch) w.low w.goal) ∙ sym m; stays = λ e. absurd (false≢true (sym e ∙ m)) }))
      (λ m. rw (s, r, m, period-is) (record { leaves = le-ltb 0 ch.ramp (omega (arith, w.low)) ∙ sym m; stays = λ e. refl })))))

  rule-is : (c : ℕ) → rule_at k c ch ≡ channel_tick false c ch
  rule-is c = ap (λ b. channel_tick b c ch) (waits-parts k ch w).free

  pub leaves_at : (c : ℕ) → leaves_zero (rule_at k c) ch ≡ eqb (c % 2 ^ start_shift ch) 0
  unfolding leaves_zero
  leaves_at c = rw (eq-eqb _ 0 (waits-parts k ch w).low, rule-is c) (ticked c).leaves

  pub stays-as-is : (c : ℕ) → leaves_zero (rule_at k c) ch ≡ false → rule_at k c ch ≡ ch
  stays-as-is c e = rule-is c ∙ (ticked c).stays (sym (leaves_at c) ∙ e)

-- one that has left 0 waits no more
pub left-none : (k : Conditions) (rule : Channel → Channel) (ch : Channel) → leaves_zero rule ch ≡ true → waits k (rule ch) ≡ false
unfolding leaves_zero
left-none k rule ch e =
    let l = ltb-true 0 (rule ch).ramp (and_right (eqb ch.ramp 0) _ e) in
    none-away k (rule ch) (λ z. absurd (omega arith))

-- no spin-up time remains of a channel of a valid state that waits: a running spin-up is at full duty
pub rests : (k : Conditions) (in_standby : Bool) (ch : Channel) → valid_channel in_standby ch ≡ true → waits k ch ≡ true → ch.spin ≡ 0
rests k in_standby ch e w =
    let full : (ltb 0 ch.spin implies eqb ch.ramp 511) ≡ true =
    (four (ltb ch.ramp 512) (leb ch.spin 1024) _ _ (channel-parts in_standby ch e).motion).3 in
    by-test (ltb 0 ch.spin)
    (λ l. absurd (let top = eqb-true ch.ramp 511 (rw l at full) in omega (arith, (waits-parts k ch w).low)))
    (λ l. omega (arith, ltb-false 0 ch.spin l))

-- ---- as the code asks

-- above 0 none waits
abbrev pub above_zero : Channel → Bool
above_zero ch = not (eqb ch.ramp 0)

pub none_at_zero : (k : Conditions) (chs : List Channel) → every above_zero chs ≡ true → every (λ ch. not (waits k ch)) chs ≡ true
unfolding waits
none_at_zero k = every-weaker above_zero (λ ch. not (waits k ch)) (λ ch e. rw (not-true (eqb ch.ramp 0) e) refl)

module _ (k : Conditions) (ch : Channel) where
  pub waits-not-above : (ch.ramp ≡ 0 → ⊥) → false ≡ waits k ch
  unfolding waits
  waits-not-above above = rw (ne_eqb _ 0 above) refl

  pub waits-not-wanted : wanted ch ≡ 0 → false ≡ waits k ch
  waits-not-wanted z = sym (none-away k ch (λ _. z))

-- ---- the channels after so many ticks, each by itself after those that it skips

abbrev pub stood : Conditions → ℕ → ℕ → List ℕ → List Channel → List Channel
stood k m t [] chs = []
stood k m t (skip ∷ skips) [] = []
stood k m t (skip ∷ skips) (ch ∷ chs) = alone k (m - skip) (t + skip) ch ∷ stood k m t skips chs

module _ (k : Conditions) (m t : ℕ) where
  pub stood-long : (skips : List ℕ) (chs : List Channel) → length skips ≡ length chs → length (stood k m t skips chs) ≡ length chs
  stood-long [] [] e = refl
  stood-long [] (ch ∷ chs) e = e
  stood-long (x ∷ skips) [] e = refl
  stood-long (x ∷ skips) (ch ∷ chs) e = ap (λ n. suc n) (stood-long skips chs (omega arith))

  pub stood-at : (skips : List ℕ) (chs : List Channel) (i : ℕ) → i < length skips → i < length chs →
      get_or (stood k m t skips chs) i blank ≡ alone k (m - get_or skips i 0) (t + get_or skips i 0) (get_or chs i blank)
  stood-at [] chs i h l = absurd (omega arith)
  stood-at (x ∷ skips) [] i h l = absurd (omega arith)
  stood-at (x ∷ skips) (ch ∷ chs) zero h l = refl
  stood-at (x ∷ skips) (ch ∷ chs) (suc i) h l = stood-at skips chs i (omega arith) (omega arith)

  -- where none is skipped
  pub stood-none : (chs : List Channel) → stood k m t (replicate (length chs) 0) chs ≡ map (alone k m t) chs
  stood-none [] = refl
  stood-none (ch ∷ chs) = ap₂ (λ x xs. x ∷ xs) (rw (sub-zero, add-zero) refl) (stood-none chs)
