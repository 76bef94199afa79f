-- The call start, and what a reset brings back. Power-on values are those of the register table of 004.
use Rattle.std.specs.Prelude.{ℕ, ◌+◌, ◌*◌, Bool, true, false, replicate, if◌then◌else◌}
use Rattle.rules.specs.Types.{Channel, StartValues, State, Answer}
use Rattle.rules.specs.Basics.{bits}
use Rattle.rules.specs.State.{blank, registers, start_values, timer}
use Rattle.rules.specs.Words.{word_count}
use Rattle.rules.specs.Valid.{valid_start}
use Rattle.rules.specs.Calls.{accepted, start_out_of_range, answer}

-- 02h 0XX0 0000b with the pin-set code, 08h 0100 1100b, 18h FFE0h, 40h the pin-set target, 50h 3C00h, 60h 0000 0000b.
-- "Ramp, spin-up, idle, clock and queue counts begin at 0"
abbrev pub start_channel : StartValues → Channel
start_channel v =
    record {
      config = bits 1 0 v.spinup * 0x20;
      dynamics = 0x4C;
      window = 0;
      target = v.target;
      target_count = word_count 0x3C00;
      count = word_count 0xFFE0;
      queue = 0;
      fault = false;
      ramp = 0;
      spin = 0;
      pulses = 0;
    }

-- the state as at start, at a clock and a pin level. 00h 0010 0XX0b with the pin-set code, 01h the pin-set byte,
-- 12h and 13h 0011 1111b, 14h 0100 0101b. K8: the shared wait is "at start and reset 0"
abbrev pub as_at_start : StartValues → ℕ → Bool → State
as_at_start v clock pin =
    record {
      channels = replicate 6 (start_channel v);
      registers = registers (0x20 + bits 1 0 v.watchdog * 2) v.frequency 0x3F 0x3F 0x45;
      pin = pin;
      start = v;
      timer = timer clock 0 false false 0;
    }

-- refusal 7: "a state with every number 0 and every flag clear, pin low"
abbrev pub zero_state : State
zero_state =
    record {
      channels = replicate 6 blank;
      registers = registers 0 0 0 0 0;
      pin = false;
      start = start_values 0 0 0 0 0;
      timer = timer 0 0 false false 0;
    }

-- "the pin is high"; K7: "Start takes the modification"
unfoldable pub start_of : ℕ → ℕ → ℕ → ℕ → ℕ → Answer
start_of watchdog spinup target frequency modification =
    let v = start_values watchdog spinup target frequency modification in
    if valid_start v then answer accepted (as_at_start v 0 true)
    else answer start_out_of_range zero_state
