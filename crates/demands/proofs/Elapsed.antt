-- Demand 3 holds.
use Prim.Native.Nat.{ℕ, ◌+◌, ◌-◌, ◌≤◌, ◌<◌}
use mathlib.Core.Path.{◌≡◌, refl, sym, ◌∙◌, ap}
use mathlib.Core.Bool.{true, false, false≢true}
use mathlib.Core.List.{List, [], ◌∷◌, map}
use native.Mathlib.Decide.{dec_lt}
use native.Mathlib.Omega.{arith}
use lib.Dec.{ltb, eqb, lit<}
use lib.ListN.{length, set, get_or-eq_default, replicate}
use borrow.Author.Tests.{ltb-true, ltb-false, eqb-true, eqb-false, le-ltb}
use Rattle.demands.specs.Types.{Channel, State, Conditions, Option, None, Some, Answer}
use Rattle.rules.specs.State.{blank, channel, registers, start_values, timer, with_settings, with_motion, with_ramp, with_channels, with_registers, with_timer, with_wait}
use Rattle.rules.specs.Registers.{rate_code, watchdog_code, delay_code}
use Rattle.rules.specs.Time.{watchdog_limit, start_delay}
use Rattle.rules.specs.Duty.{conditions_of, override_by, override_of, duty_under, output_duty}
use Rattle.rules.specs.Valid.{valid_channel, valid_pulses, valid_registers, valid_start, valid_timer, valid_of}
use Rattle.rules.specs.Start.{start_channel, as_at_start}
use Rattle.rules.specs.Calls.{accepted, state_not_valid, answer, read_answer}
use Rattle.rules.specs.Make.{made, made_each, after_each}
use Rattle.rules.specs.Tick.{wanted, period_of, spin_up_due, in_force, overridden, idle_limit, timer_tick, toward, channel_tick, leaves_zero, in_turn, wait_after, channels_tick, wait_tick, delay_of, tick, iterate, ticks_passed}
use Rattle.demands.specs.Elapsed.{answers, end_of, total, totals, distance, settling_ticks, duty_at, Settles, AsCounted}
use Rattle.rules.proofs.Tests.{by-test}
use Rattle.laws.proofs.Iterate.{iterate-add}
use Rattle.laws.proofs.Ramp.{approach, multiples, approach-up, approach-down, multiples-settled, multiples-sooner}
use Rattle.laws.proofs.ChannelTicks.{channel_ticks, ramped_by, period-pos, ticks-ramp}
use Rattle.laws.proofs.TickValid.{iterate-valid}
use Rattle.laws.proofs.Keep.{passed-valid, passed-refused}
use Rattle.laws.proofs.StateTicks.{counting-live, row_of, row_after, ahead, ticks-ahead, ahead-conditions}
use Rattle.laws.proofs.Waiting.{alone, waits-not-above, waits-not-wanted}
use Rattle.laws.proofs.OwnWay.{none-alone, only-alone, free-alone}

-- ---- the calls

-- from the state that t ticks left
counted-from : (s : State) (t : ℕ) (elapsed : List ℕ) → valid_of s ≡ true →
    answers (iterate t tick s) elapsed ≡ map (λ k. read_answer accepted 0 (iterate k tick s)) (totals t elapsed)
unfolding made made_each totals
counted-from s t [] v = refl
counted-from s t (n ∷ elapsed) v =
    let e : ticks_passed (iterate t tick s) n ≡ answer accepted (iterate (t + n) tick s) =
    passed-valid (iterate t tick s) n (iterate-valid t s v) ∙ ap (answer accepted) (sym (iterate-add tick t n s)) in
    rw e (ap (λ rest. read_answer accepted 0 (iterate (t + n) tick s) ∷ rest) (counted-from s (t + n) elapsed v))

all-refused : (s : State) (elapsed : List ℕ) → valid_of s ≡ false → answers s elapsed ≡ map (λ n. read_answer state_not_valid 0 s) elapsed
unfolding made made_each
all-refused s [] v = refl
all-refused s (n ∷ elapsed) v = rw (passed-refused s n v) (ap (λ rest. read_answer state_not_valid 0 s ∷ rest) (all-refused s elapsed v))

-- where a list of calls ends
pub end-counted : (s : State) (elapsed : List ℕ) → valid_of s ≡ true → end_of s elapsed ≡ iterate (total elapsed) tick s
unfolding made after_each total
end-counted s [] v = unfold iterate in refl
end-counted s (n ∷ elapsed) v =
    ap (λ (a : Answer). end_of a.state elapsed) (passed-valid s n v)
    ∙ end-counted (iterate n tick s) elapsed (iterate-valid n s v) ∙ sym (iterate-add tick n (total elapsed) s)

end_refused : (s : State) (elapsed : List ℕ) → valid_of s ≡ false → end_of s elapsed ≡ s
unfolding made after_each
end_refused s [] v = refl
end_refused s (n ∷ elapsed) v = ap (λ (a : Answer). end_of a.state elapsed) (passed-refused s n v) ∙ end_refused s elapsed v

same_end : (s : State) (one other : List ℕ) → total one ≡ total other → end_of s one ≡ end_of s other
same_end s one other e =
    by-test (valid_of s)
    (λ v. end-counted s one v ∙ ap (λ n. iterate n tick s) e ∙ sym (end-counted s other v))
    (λ v. end_refused s one v ∙ sym (end_refused s other v))

one-after-the-other : (s : State) (a b : ℕ) → ticks_passed (ticks_passed s a).state b ≡ ticks_passed s (a + b)
one-after-the-other s a b =
    by-test (valid_of s)
    (λ v. rw (passed-valid s a v, passed-valid s (a + b) v)
    (passed-valid (iterate a tick s) b (iterate-valid a s v) ∙ ap (answer accepted) (sym (iterate-add tick a b s))))
    (λ v. rw (passed-refused s a v) (passed-refused s b v ∙ sym (passed-refused s (a + b) v)))

-- ---- settling

-- so many steps lead to the goal, and fewer do not
module _ (ch : Channel) (n : ℕ) where
  far-enough : distance ch ≤ n → approach ch.ramp (wanted ch) n ≡ wanted ch
  far-enough h =
      by-test (ltb ch.ramp (wanted ch))
      (λ e. let l : wanted ch - ch.ramp ≤ n = rw e at h in
      omega (arith, ltb-true ch.ramp (wanted ch) e, approach-up ch.ramp (wanted ch) n (omega (arith, ltb-true ch.ramp (wanted ch) e))))
      (λ e. let l : ch.ramp - wanted ch ≤ n = rw e at h in
      omega (arith, approach-down ch.ramp (wanted ch) n (ltb-false ch.ramp (wanted ch) e)))

  not-far-enough : n < distance ch → approach ch.ramp (wanted ch) n ≡ wanted ch → ⊥
  not-far-enough h a =
      by-test (ltb ch.ramp (wanted ch))
      (λ e. let l : n < wanted ch - ch.ramp = rw e at h in
      omega (arith, approach-up ch.ramp (wanted ch) n (omega (arith, ltb-true ch.ramp (wanted ch) e))))
      (λ e. let l : n < ch.ramp - wanted ch = rw e at h in
      omega (arith, approach-down ch.ramp (wanted ch) n (ltb-false ch.ramp (wanted ch) e)))

-- with no override in force and no spin-up the duty is the ramp value
pub free-duty : (k : Conditions) (ch : Channel) → overridden k ch ≡ false → ch.spin ≡ 0 → output_duty k ch ≡ ch.ramp
unfolding output_duty
free-duty k ch free z = by-override (override_of k ch) free
  where
    by-override : (o : Option ℕ) → in_force o ≡ false → duty_under o ch ≡ ch.ramp
    by-override None e = rw (le-ltb 0 ch.spin (omega arith)) refl
    by-override (Some d) e = absurd (false≢true (sym e))

-- k ticks that the watchdog does not end lead a channel where it goes by itself
abbrev pub Own : State → ℕ → ℕ → Type 0
Own s i k = channel (ahead s k) i ≡ alone (conditions_of s) k s.timer.clock (channel s i)

-- so it is above 0; with no wait and no delay; and at wait 0 with every other channel at ramp value and target 0
module _ (s : State) (i : ℕ) (exists : i < length s.channels) where
  pub above-own : ((channel s i).ramp ≡ 0 → ⊥) → (k : ℕ) → Own s i k
  unfolding ahead row_after
  above-own above k =
      none-alone (conditions_of s) (delay_of s) k s.timer.clock (row_of s) i exists (sym (waits-not-above (conditions_of s) (channel s i) above))

  free_own : s.timer.wait ≡ 0 → delay_code s.registers.options ≡ 0 → (k : ℕ) → Own s i k
  unfolding ahead row_after start_delay
  free_own z code k = free-alone (conditions_of s) (delay_of s) k s.timer.clock (row_of s) i exists z (ap start_delay code)

  pub only-own : s.timer.wait ≡ 0 → ((n : ℕ) → (n ≡ i → ⊥) → ((channel s n).ramp ≡ 0) × ((channel s n).target ≡ 0)) → (k : ℕ) → Own s i k
  unfolding ahead row_after wanted
  only-own z others k =
      only-alone (conditions_of s) (delay_of s) i k s.timer.clock (row_of s) exists z
      (λ n other. sym (waits-not-wanted (conditions_of s) (channel s n) (others n other).1))

-- with no override in force
module _ (s : State) (i : ℕ) (free : overridden (conditions_of s) (channel s i) ≡ false) (k : ℕ) (own : Own s i k) where
  pub channel-ahead : channel (ahead s k) i ≡ channel_ticks false k s.timer.clock (channel s i)
  channel-ahead = own ∙ ap (λ held. channel_ticks held k s.timer.clock (channel s i)) free

  pub duty-ahead : (ramp spin pulses : ℕ) → channel_ticks false k s.timer.clock (channel s i) ≡ with_motion (channel s i) ramp spin pulses →
      spin ≡ 0 → duty_at (ahead s k) i ≡ ramp
  unfolding override_by
  duty-ahead ramp spin pulses e z =
      ap (λ cond. output_duty cond (channel (ahead s k) i)) (ahead-conditions s k)
      ∙ ap (output_duty (conditions_of s)) (channel-ahead ∙ e)
      ∙ free-duty (conditions_of s) (with_motion (channel s i) ramp spin pulses) free z

module _ (s : State) (i : ℕ) (c : Settles s i) where
  ch : Channel
  ch = channel s i

  -- past the last channel there is none with a rate code
  exists : i < length s.channels
  exists =
      elim (dec_lt i (length s.channels)) [
        | yes h ↦ h
        | no g ↦ absurd (c.has-rate (ap (λ (x : Channel). rate_code x.dynamics) (get_or-eq_default s.channels blank (omega arith))))
      ]

  far : 0 < distance ch
  unfolding ch
  far =
      let off : (channel s i).ramp ≡ wanted (channel s i) → ⊥ = λ e. c.off-target (free-duty (conditions_of s) (channel s i) c.not-overridden c.not-running ∙ e) in
      by-test (ltb (channel s i).ramp (wanted (channel s i)))
      (λ e. rw e (omega (arith, ltb-true (channel s i).ramp (wanted (channel s i)) e)))
      (λ e. rw e (omega (arith, off, ltb-false (channel s i).ramp (wanted (channel s i)) e)))

  -- up to the settling tick the watchdog's limit is not reached, and the duty is the ramp's closed form
  module _ (k : ℕ) (h : k ≤ settling_ticks s.timer.clock (channel s i)) where
    short : iterate k tick s ≡ ahead s k
    short =
        ticks-ahead s k (λ on. let l = counting-live s on in
        omega (arith, c.none-coming (eqb-false (watchdog_code s.registers.control) 0 l.0) l.1))

    own : Own s i k
    own =
        by-test (eqb (channel s i).ramp 0)
        (λ e. let z = c.no-wait (eqb-true _ 0 e) in free_own s i exists z.0 z.1 k)
        (λ e. above-own s i exists (eqb-false _ 0 e) k)

    duty-then : duty_at (iterate k tick s) i ≡ ramped_by s.timer.clock k (channel s i)
    duty-then =
        ap (λ x. duty_at x i) short
        ∙ duty-ahead s i c.not-overridden k own _ (channel s i).spin (channel s i).pulses
        (ticks-ramp s.timer.clock (channel s i) c.not-running c.not-due k c.has-rate) c.not-running

  at_target : (elapsed : List ℕ) → total elapsed ≡ settling_ticks s.timer.clock (channel s i) → duty_at (end_of s elapsed) i ≡ wanted (channel s i)
  unfolding ch
  at_target elapsed e =
      let n = multiples-settled (period_of (channel s i)) (period-pos (channel s i)) s.timer.clock (distance (channel s i)) far in
      ap (λ x. duty_at x i) (end-counted s elapsed c.is-valid) ∙ duty-then (total elapsed) (omega arith)
      ∙ far-enough (channel s i) _ (omega (arith, ap (multiples (period_of (channel s i)) s.timer.clock) e ∙ n))

  off-target-before : (elapsed : List ℕ) → total elapsed < settling_ticks s.timer.clock (channel s i) → duty_at (end_of s elapsed) i ≡ wanted (channel s i) → ⊥
  unfolding ch
  off-target-before elapsed l e =
      let n = multiples-sooner (period_of (channel s i)) (period-pos (channel s i)) s.timer.clock (distance (channel s i)) far (total elapsed) l in
      not-far-enough (channel s i) _ n
      (sym (ap (λ x. duty_at x i) (end-counted s elapsed c.is-valid) ∙ duty-then (total elapsed) (omega arith)) ∙ e)

-- ---- all of it

pub as-counted : AsCounted
as-counted =
    record {
      counted = λ s elapsed v. (unfold iterate in counted-from s 0 elapsed v);
      refused = all-refused;
      same_total = same_end;
      joined = λ s a b h. one-after-the-other s a b;
      settles = λ s i elapsed c e. at_target s i c elapsed e;
      not-sooner = λ s i elapsed c l e. off-target-before s i c elapsed l e;
    }

-- ---- states and channels that settle

-- six channels at a ramp value, with a target and a dynamics byte, at clock 6, under a watchdog code and an idle count
abbrev settling_from : ℕ → ℕ → ℕ → ℕ → ℕ → State
settling_from ramp target dynamics code idle =
    let v = start_values code 0 target 0 0 in
    let ch = with_motion (with_settings (start_channel v) 0 dynamics 0 target 480) ramp 0 0 in
    with_channels (with_timer (as_at_start v 6 true) (timer 6 idle false false 0)) (replicate 6 ch)

-- channel 1, by tests that antt computes
settles-as-tested : (s : State) → let ch = channel s 0 in
    valid_of s ≡ true → eqb (duty_at s 0) (wanted ch) ≡ false → eqb (rate_code ch.dynamics) 0 ≡ false →
    ch.spin ≡ 0 → spin_up_due ch ≡ false → overridden (conditions_of s) ch ≡ false →
    ((watchdog_code s.registers.control ≡ 0 → ⊥) → s.timer.expired ≡ false → s.timer.idle + settling_ticks s.timer.clock ch < idle_limit s) →
    (ch.ramp ≡ 0 → (s.timer.wait ≡ 0) × (delay_code s.registers.options ≡ 0)) → Settles s 0
settles-as-tested s valid off rate rests due free coming wait =
    record {
      is-valid = valid;
      off-target = eqb-false _ _ off;
      has-rate = eqb-false _ 0 rate;
      not-running = rests;
      not-due = due;
      not-overridden = free;
      none-coming = coming;
      no-wait = wait;
    }

-- ramp value 100, target 110, rate code 3, watchdog off: after 38 ticks
abbrev pub rising_state : State
rising_state = settling_from 100 110 0x4C 0 0

pub rising-example : Settles rising_state 0 × (settling_ticks 6 (channel rising_state 0) ≡ 38)
unfolding valid_of valid_registers valid_start valid_timer valid_channel valid_pulses watchdog_limit conditions_of override_by output_duty spin_up_due wanted
rising-example =
    (settles-as-tested rising_state refl refl refl refl refl refl (λ on live. absurd (on refl)) (λ z. absurd (omega arith)), refl)

-- ramp value 110, target 100, rate code 3, asymmetric fall, watchdog code 1 with 2,485 of 2,560 ticks counted: after 74 ticks, one
-- before the watchdog would expire
abbrev pub falling_state : State
falling_state = settling_from 110 100 0x4E 1 2485

pub falling-example : Settles falling_state 0 × (settling_ticks 6 (channel falling_state 0) ≡ 74)
unfolding valid_of valid_registers valid_start valid_timer valid_channel valid_pulses watchdog_limit conditions_of override_by output_duty spin_up_due wanted
falling-example =
    (settles-as-tested falling_state refl refl refl refl refl refl (λ on live. lit< tt) (λ z. absurd (omega arith)), refl)

-- ramp value 0, target 10, rate code 3, wait and delay code 0: after 38 ticks, though all six leave 0 in the second of them
abbrev pub free_state : State
free_state = with_registers (settling_from 0 10 0x4C 0 0) (registers 0x20 0 0x3F 0x3F 0x05)

pub free-example : Settles free_state 0 × (settling_ticks 6 (channel free_state 0) ≡ 38)
    × (map (λ ch. ch.ramp) (end_of free_state (1 ∷ [])).channels ≡ replicate 6 0)
    × (map (λ ch. ch.ramp) (end_of free_state (2 ∷ [])).channels ≡ replicate 6 1)
unfolding valid_of valid_registers valid_start valid_timer valid_channel valid_pulses conditions_of override_by output_duty spin_up_due wanted made after_each ticks_passed iterate tick timer_tick channels_tick wait_tick in_turn wait_after leaves_zero channel_tick start_delay toward
free-example =
    (settles-as-tested free_state refl refl refl refl refl refl (λ on live. absurd (on refl)) (λ z. (refl, refl)), refl, refl, refl)

-- ramp value 100 and target 110 as above, at wait 5 and delay code 2, while channel 2 leaves 0 within the 38 ticks
abbrev pub beside_state : State
beside_state =
    let s = rising_state in
    with_channels (with_timer s (with_wait s.timer 5)) (set s.channels 1 (with_ramp (channel s 1) 0))

pub beside-example : Settles beside_state 0 × (settling_ticks 6 (channel beside_state 0) ≡ 38)
    × (beside_state.timer.wait ≡ 5) × (delay_code beside_state.registers.options ≡ 2)
    × ((channel beside_state 1).ramp ≡ 0) × ((channel (end_of beside_state (38 ∷ [])) 1).ramp ≡ 9)
unfolding valid_of valid_registers valid_start valid_timer valid_channel valid_pulses conditions_of override_by output_duty spin_up_due wanted made after_each ticks_passed iterate tick timer_tick channels_tick wait_tick in_turn wait_after leaves_zero channel_tick toward
beside-example =
    (settles-as-tested beside_state refl refl refl refl refl refl (λ on live. absurd (on refl)) (λ z. absurd (omega arith)), refl, refl, refl, refl, refl)
