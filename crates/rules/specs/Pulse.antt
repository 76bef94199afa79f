-- The call that reports a pulse of a tachometer, of K7: "A new call reports one pulse on a channel". Whether the tachometer is enabled is not
-- asked, and no register is accessed: idle count and expiry stay.
use Rattle.std.specs.Prelude.{ℕ, ◌-◌, Bool, not, ◌&&◌, ltb, eqb, set, if◌then◌else◌}
use Rattle.rules.specs.Types.{Channel, State, Answer}
use Rattle.rules.specs.State.{channel, with_motion, with_channels}
use Rattle.rules.specs.Time.{ends_early}
use Rattle.rules.specs.Tick.{spin_left}
use Rattle.rules.specs.Valid.{if_valid}
use Rattle.rules.specs.Calls.{if_channel}

-- "under B, the second pulse within a running spin-up sets its remaining ticks to 0; under A it does nothing". The first is counted
unfoldable pub pulsed : Bool → Channel → Channel
pulsed early ch =
    if not (early && ltb 0 ch.spin) then ch
    else if eqb ch.pulses 0 then with_motion ch ch.ramp ch.spin 1
    else spin_left ch 0

-- a pulse of the channel with index i
abbrev pub with_pulse : State → ℕ → State
with_pulse s i = with_channels s (set s.channels i (pulsed (ends_early s.start.modification) (channel s i)))

unfoldable pub pulse_of : State → ℕ → Answer
pulse_of s n = if_valid s (if_channel n s (with_pulse s (n - 1)))
