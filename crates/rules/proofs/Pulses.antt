-- The count of pulses ends with its spin-up, and which channels there are: what ties the definitions to the papers' words.
use mathlib.Core.Path.{◌≡◌, refl}
use mathlib.Core.Bool.{true, false}
use mathlib.Core.List.{[], ◌∷◌, map}
use Rattle.rules.specs.Types.{Channel, Config}
use Rattle.rules.specs.Calls.{is_channel}
use Rattle.rules.specs.State.{blank, with_motion}
use Rattle.rules.specs.Write.{stopped, channel_written}
use Rattle.rules.specs.Tick.{channel_tick}
use Rattle.rules.specs.Pulse.{pulsed}

-- "channel not 1 to 6"
pub channel-numbers : map is_channel (0 ∷ 1 ∷ 6 ∷ 7 ∷ 4294967295 ∷ []) ≡ false ∷ true ∷ true ∷ false ∷ false ∷ []
channel-numbers = refl

-- a channel that spins up, with one tick left and one pulse counted
abbrev ending : Channel
ending = with_motion blank 511 1 1

-- "0 .. whenever no spin-up time remains": after the last tick, monitor only, standby, and the second pulse; within it a tick leaves the count
pub count-ends : map (λ ch. ch.pulses) (channel_tick false 1 ending ∷ channel_written ending 0x10 Config ∷ stopped ending ∷ pulsed true ending ∷ []) ≡ 0 ∷ 0 ∷ 0 ∷ 0 ∷ []
unfolding channel_tick channel_written pulsed
count-ends = refl

pub count-stays : (channel_tick false 1 (with_motion blank 511 2 1)).pulses ≡ 1
unfolding channel_tick
count-stays = refl
