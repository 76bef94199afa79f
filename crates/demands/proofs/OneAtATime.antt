-- With a delay code above 0, channels leave ramp value 0 one at a time, and no sooner after each other than coded.
use Prim.Native.Nat.{ℕ, zero, suc, ◌+◌, ◌-◌, ◌≤◌, ◌<◌}
use mathlib.Core.Path.{◌≡◌, refl, sym, ◌∙◌, ap}
use mathlib.Core.Bool.{true, ◌||◌}
use mathlib.Core.List.{List, [], ◌∷◌, map}
use native.Mathlib.Omega.{arith}
use lib.Dec.{ltb, leb, eqb, lit<}
use lib.ListN.{take, replicate}
use borrow.Author.Tests.{ltb-true, eqb-true, eqb-false}
use Rattle.demands.specs.Types.{Channel, State}
use Rattle.rules.specs.State.{registers, start_values, with_settings, with_motion, with_channels, with_registers, with_timer}
use Rattle.rules.specs.Registers.{watchdog_code, delay_code}
use Rattle.rules.specs.Time.{watchdog_limit, spin_ticks, start_delay}
use Rattle.rules.specs.Duty.{conditions_of, override_by}
use Rattle.rules.specs.Start.{start_channel, as_at_start}
use Rattle.rules.specs.Tick.{wanted, spin_up_due, toward, channel_tick, leaves_zero, in_turn, wait_after, rule_at, delay_of, timer_tick, channels_tick, wait_tick, tick, iterate}
use Rattle.demands.specs.OneAtATime.{Leaves, AlwaysOneAtATime}
use Rattle.rules.proofs.Tests.{by-test, all-below}
use Rattle.laws.proofs.Iterate.{iterate-add, iterate-last}
use Rattle.laws.proofs.Turns.{left-at-zero, left-sets, left-same, turns-keep-wait}

-- a delay code above 0 is a delay above 0
coded : (s : State) → (delay_code s.registers.options ≡ 0 → ⊥) → 0 < delay_of s
unfolding start_delay
coded s some =
    let code = delay_code s.registers.options in
    by-test (eqb code 0)
    (λ e. absurd (some (eqb-true code 0 e)))
    (λ e. ltb-true 0 (delay_of s)
    (rw e at (all-below 8 (λ n. eqb n 0 || ltb 0 (start_delay n)) refl code (omega arith))))

-- ---- one tick

-- the timer after step 2, and the rule for a channel by itself
abbrev next : State → State
next s = with_timer s (timer_tick (watchdog_code s.registers.control) s.timer)

abbrev rule : State → Channel → Channel
rule s = rule_at (conditions_of (next s)) (next s).timer.clock

wait-fell : (s : State) → (next s).timer.wait ≡ s.timer.wait - 1
unfolding timer_tick
wait-fell s =
    let code = watchdog_code s.registers.control in
    by-test (eqb code 0 || s.timer.expired)
    (λ e. rw e refl)
    (λ e. by-test (leb (watchdog_limit code) (s.timer.idle + 1)) (λ l. rw (e, l) refl) (λ l. rw (e, l) refl))

-- it falls by one at most
wait-after : (s : State) → s.timer.wait - 1 ≤ (tick s).timer.wait
unfolding tick
wait-after s = omega (arith, wait-fell s, turns-keep-wait (rule s) (delay_of s) (next s).timer.wait s.channels)

module _ (s : State) (some : 0 < delay_of s) where
  one-leaves : (i j : ℕ) → Leaves s i → Leaves s j → i ≡ j
  unfolding tick
  one-leaves = left-same (rule s) (delay_of s) some (next s).timer.wait s.channels

  leaves-late : (i : ℕ) → Leaves s i → s.timer.wait ≤ 1
  unfolding tick
  leaves-late i l = omega (arith, wait-fell s, left-at-zero (rule s) (delay_of s) some (next s).timer.wait s.channels i l)

  leaves-sets : (i : ℕ) → Leaves s i → (tick s).timer.wait ≡ delay_of s
  unfolding tick
  leaves-sets = left-sets (rule s) (delay_of s) some (next s).timer.wait s.channels

-- ---- many

delay-stays : (n : ℕ) (s : State) → delay_of (iterate n tick s) ≡ delay_of s
unfolding iterate tick
delay-stays zero s = refl
delay-stays (suc n) s = delay-stays n (tick s)

wait-falls : (n : ℕ) (s : State) → s.timer.wait - n ≤ (iterate n tick s).timer.wait
unfolding iterate
wait-falls zero s = omega arith
wait-falls (suc n) s = omega (arith, wait-after s, wait-falls n (tick s))

pub one-at-a-time : AlwaysOneAtATime
one-at-a-time s code =
    record {
      at_most_one = λ t. one-leaves (iterate t tick s) (some t);
      apart = λ a b i j h l m.
          let n = b - suc a in
          let e : suc a + n ≡ b = omega arith in
          let first = tick (iterate a tick s) in
          let set : first.timer.wait ≡ delay_of s = leaves-sets (iterate a tick s) (some a) i l ∙ delay-stays a s in
          let later : iterate b tick s ≡ iterate n tick first =
          ap (λ k. iterate k tick s) (sym e) ∙ iterate-add tick (suc a) n s ∙ ap (iterate n tick) (iterate-last tick a s) in
          let late = leaves-late (iterate b tick s) (some b) j m in
          let still : first.timer.wait - n ≤ (iterate b tick s).timer.wait = rw later (wait-falls n first) in
          omega arith;
    }
  where
    some : (t : ℕ) → 0 < delay_of (iterate t tick s)
    some t = rw (delay-stays t s) (coded s code)

-- ---- states with a delay code above 0

-- a box just started, target 200 and spin-up code 1, delay code 1: channel 1 leaves with the first tick and channel 2 with the 129th, exactly the
-- coded 128 later
abbrev pub starting_box : State
starting_box = with_registers (as_at_start (start_values 0 1 200 0 0) 0 true) (registers 0x20 0 0x3F 0x3F 0x25)

pub apart-example : (delay_code starting_box.registers.options ≡ 0 → ⊥) × (delay_of starting_box ≡ 128)
    × Leaves starting_box 0 × Leaves (iterate 128 tick starting_box) 1
unfolding start_delay iterate tick timer_tick channels_tick wait_tick in_turn wait_after leaves_zero channel_tick conditions_of override_by spin_up_due wanted spin_ticks
apart-example = (eqb-false 1 0 refl, refl, (refl, lit< tt), (refl, lit< tt))

-- delay code 1 and no wait: channel 1 goes up from 100 with every tick, the others from 0 with every second one. A step above 0 sets no wait and
-- needs none to be over: with the first tick the wait stays 0, with the second channel 2 leaves beside it, and channel 3 has to wait
abbrev pub turning_box : State
turning_box =
    let v = start_values 0 0 200 0 0 in
    let ch = with_settings (start_channel v) 0 0x48 0 200 480 in
    let turning = with_motion (with_settings ch 0 0x44 0 200 480) 100 0 0 in
    with_channels (with_registers (as_at_start v 0 true) (registers 0x20 0 0x3F 0x3F 0x25)) (turning ∷ replicate 5 ch)

-- the wait, and the ramp values of the first three channels
abbrev seen_after : ℕ → List ℕ
seen_after n = let s = iterate n tick turning_box in s.timer.wait ∷ map (λ ch. ch.ramp) (take 3 s.channels)

pub turning-example : (delay_of turning_box ≡ 128) × (seen_after 0 ≡ 0 ∷ 100 ∷ 0 ∷ 0 ∷ []) × (seen_after 1 ≡ 0 ∷ 101 ∷ 0 ∷ 0 ∷ [])
    × (seen_after 2 ≡ 128 ∷ 102 ∷ 1 ∷ 0 ∷ []) × (seen_after 3 ≡ 127 ∷ 103 ∷ 1 ∷ 0 ∷ []) × (seen_after 4 ≡ 126 ∷ 104 ∷ 2 ∷ 0 ∷ [])
unfolding start_delay iterate tick timer_tick channels_tick wait_tick in_turn wait_after leaves_zero channel_tick conditions_of override_by spin_up_due wanted toward
turning-example = (refl, refl, refl, refl, refl, refl)
