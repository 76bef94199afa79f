-- "Which duty comes out": for each channel the first line that applies.
use Rattle.std.specs.Prelude.{ℕ, ◌+◌, ◌*◌, Bool, not, ◌&&◌, List, [], ◌∷◌, ltb, eqb, Option, None, Some, if◌then◌else◌}
use Rattle.rules.specs.Types.{Channel, State, Conditions}
use Rattle.rules.specs.Basics.{some, flag}
use Rattle.rules.specs.Registers.{standby, monitor_only, failed_fan_option}

-- 11h: "bit 0 for channel 1 to bit 5 for channel 6"
abbrev pub fault_byte : List Channel → ℕ
fault_byte [] = 0
fault_byte (ch ∷ chs) = flag ch.fault + 2 * fault_byte chs

-- what a box's state tells an override of any channel. "Masks do not matter here"
unfoldable pub conditions_of : State → Conditions
conditions_of s =
    record {
      pin = s.pin;
      standby = standby s.registers.control;
      expired = s.timer.expired;
      option = failed_fan_option s.registers.options;
      faulty = some (λ ch. ch.fault) s.channels;
    }

-- "Failed-fan option 0: a channel whose fault bit is set gives 0. Option 1: no effect. Option 2: such a channel gives
-- 511. Option 3: if any fault bit is set, every channel gives 511"
abbrev pub failed_fan : ℕ → Bool → Bool → Option ℕ
failed_fan option fault faulty =
    if eqb option 0 && fault then Some 0
    else if eqb option 2 && fault then Some 511
    else if eqb option 3 && faulty then Some 511
    else None

-- "monitor only, 0; FULL_SPEED low, 511; standby, 0; watchdog expired, 511; failed-fan option": the lines "called
-- overrides", of a channel that is monitor only or not and has its fault bit set or not
unfoldable pub override_by : Conditions → Bool → Bool → Option ℕ
override_by k monitor fault =
    if monitor then Some 0
    else if not k.pin then Some 511
    else if k.standby then Some 0
    else if k.expired then Some 511
    else failed_fan k.option fault k.faulty

abbrev pub override_of : Conditions → Channel → Option ℕ
override_of k ch = override_by k (monitor_only ch.config) ch.fault

-- "spin-up running, 511; otherwise the ramp value"
abbrev pub own_duty : Channel → ℕ
own_duty ch = if ltb 0 ch.spin then 511 else ch.ramp

-- the output duty of a channel
abbrev pub duty_under : Option ℕ → Channel → ℕ
duty_under (Some duty) ch = duty
duty_under None ch = own_duty ch

unfoldable pub output_duty : Conditions → Channel → ℕ
output_duty k ch = duty_under (override_of k ch) ch
