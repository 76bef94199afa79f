-- K8's shared wait, and who may leave ramp value 0: what ties the definitions to the paper's words.
use Prim.Native.Nat.{ℕ}
use mathlib.Core.Path.{◌≡◌, refl}
use mathlib.Core.Bool.{true, false}
use mathlib.Core.List.{List, [], ◌∷◌, map}
use Rattle.rules.specs.Types.{Channel, State}
use Rattle.rules.specs.State.{blank, with_settings, with_ramp, timer, with_wait, with_timer}
use Rattle.rules.specs.Time.{start_delay, watchdog_limit, spin_ticks}
use Rattle.rules.specs.Map.{place_at, setting_at}
use Rattle.rules.specs.Duty.{conditions_of, override_by}
use Rattle.rules.specs.Valid.{valid_channel, valid_pulses, valid_registers, valid_start, valid_timer, valid_of}
use Rattle.rules.specs.Start.{zero_state, start_of}
use Rattle.rules.specs.Write.{write_refusal, written, box_written, write_of}
use Rattle.rules.specs.Tick.{wanted, spin_up_due, timer_tick, toward, channel_tick, leaves_zero, in_turn, wait_after, wait_tick, channels_tick, tick}

-- "codes 0 to 5 are 0, 128, 256, 512, 1,024 and 2,048 ticks, with 6 and 7 as 5"
pub delays : map start_delay (0 ∷ 1 ∷ 2 ∷ 3 ∷ 4 ∷ 5 ∷ 6 ∷ 7 ∷ []) ≡ 0 ∷ 128 ∷ 256 ∷ 512 ∷ 1024 ∷ 2048 ∷ 2048 ∷ 2048 ∷ []
unfolding start_delay
delays = refl

-- "wait at most 2,048"
pub longest : map (λ wait. valid_timer 0 (timer 0 0 false false wait)) (2048 ∷ 2049 ∷ []) ≡ true ∷ false ∷ []
unfolding valid_timer
longest = refl

-- a state with FULL_SPEED low, and this wait
abbrev waiting : ℕ → State
waiting wait = with_timer zero_state (with_wait zero_state.timer wait)

-- "falls by one each tick while above 0", under an override, in the tick of an expiry, and once expired
pub falls : (map (λ wait. (tick (waiting wait)).timer.wait) (5 ∷ 1 ∷ 0 ∷ []) ≡ 4 ∷ 0 ∷ 0 ∷ [])
    × (map (λ t. (timer_tick 1 t).wait) (timer 0 2559 false false 5 ∷ timer 0 2560 true true 5 ∷ []) ≡ 4 ∷ 4 ∷ [])
unfolding tick timer_tick watchdog_limit wait_tick channels_tick wait_after in_turn leaves_zero channel_tick conditions_of override_by start_delay
falls = (refl, refl)

-- ---- the channels in turn, by the rule of one by itself at clock 1

abbrev rule : Channel → Channel
rule = channel_tick false 1

-- spin-up is due; rate code 0; a step in each tick, from 0 and from 5
abbrev due : Channel
due = with_settings blank 0x20 0x04 0 9 0

abbrev jumps : Channel
jumps = with_settings blank 0x00 0x00 0 9 0

abbrev steps : Channel
steps = with_settings blank 0x00 0x04 0 9 0

abbrev moves : Channel
moves = with_ramp steps 5

-- a step in every second tick, and not in this one
abbrev slow : Channel
slow = with_settings blank 0x00 0x08 0 9 0

abbrev ramps : List Channel → List ℕ
ramps chs = map (λ ch. ch.ramp) chs

-- "channels go from 1 to 6; one .. then sets the wait": the first leaves, and then no other; with delay 0 all do
pub first-leaves : (ramps (channels_tick rule 128 0 (due ∷ jumps ∷ steps ∷ [])) ≡ 511 ∷ 0 ∷ 0 ∷ []) × (wait_tick rule 128 0 (due ∷ jumps ∷ steps ∷ []) ≡ 128)
    × (ramps (channels_tick rule 0 0 (due ∷ jumps ∷ steps ∷ [])) ≡ 511 ∷ 9 ∷ 1 ∷ [])
unfolding wait_tick channels_tick wait_after in_turn leaves_zero channel_tick spin_up_due wanted toward
first-leaves = (refl, refl, refl)

-- "may do so only at wait 0": else it stays as it is, its spin-up time too; so it does with delay 0, at a wait that an earlier code has set
pub held_back : (channels_tick rule 128 1 (due ∷ jumps ∷ steps ∷ []) ≡ due ∷ jumps ∷ steps ∷ []) × (channels_tick rule 0 1 (due ∷ jumps ∷ steps ∷ []) ≡ due ∷ jumps ∷ steps ∷ [])
unfolding channels_tick wait_after in_turn leaves_zero channel_tick spin_up_due spin_ticks wanted toward
held_back = (refl, refl)

-- one that waits for its period holds up no other
pub not-held-up : (ramps (channels_tick rule 128 0 (slow ∷ steps ∷ [])) ≡ 0 ∷ 1 ∷ []) × (wait_tick rule 128 0 (slow ∷ []) ≡ 0)
unfolding wait_tick channels_tick wait_after in_turn leaves_zero channel_tick spin_up_due wanted toward
not-held-up = (refl, refl)

-- one that moves above 0 goes on at any wait, and sets none
pub above_zero : (ramps (channels_tick rule 128 7 (moves ∷ steps ∷ [])) ≡ 6 ∷ 0 ∷ []) × (wait_tick rule 128 7 (moves ∷ steps ∷ []) ≡ 7)
    × (ramps (channels_tick rule 128 0 (moves ∷ steps ∷ [])) ≡ 6 ∷ 1 ∷ []) × (wait_tick rule 128 0 (moves ∷ []) ≡ 0)
unfolding wait_tick channels_tick wait_after in_turn leaves_zero channel_tick spin_up_due wanted toward
above_zero = (refl, refl, refl, refl)

-- ---- what else changes it

-- "Standby does not clear it"; a write to 14h leaves it too; "at start and reset 0", and in the state of a refused start
pub kept : map (λ s. s.timer.wait) ((write_of (waiting 5) 0x00 0x80).state ∷ (write_of (waiting 5) 0x14 0xE0).state ∷ (write_of (waiting 5) 0x00 0x40).state ∷ (start_of 0 1 200 0x11 0).state ∷ (start_of 4 0 0 0 0).state ∷ [])
    ≡ 5 ∷ 5 ∷ 0 ∷ 0 ∷ 0 ∷ []
unfolding write_of write_refusal written box_written valid_of valid_registers valid_start valid_timer valid_channel valid_pulses start_of place_at setting_at
kept = refl
