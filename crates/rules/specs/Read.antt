-- The call read.
use Rattle.std.specs.Prelude.{ℕ, ◌+◌, Bool, not, ◌&&◌, eqb, if◌then◌else◌}
use Rattle.rules.specs.Types.{Channel, State, StatusRegister, Faults2, Faults1, Count, OtherCount, Output, BoxRegister, Control, Frequency, Mask2, Mask1, Options, ChannelRegister, Config, Dynamics, Window, WordRegister, Target, TargetCount, Place, Absent, ReadOnly, Shared, Own, OwnWord, ReadAnswer}
use Rattle.rules.specs.Basics.{keep, flag}
use Rattle.rules.specs.State.{channel, with_status, with_timer}
use Rattle.rules.specs.Registers.{target_count}
use Rattle.rules.specs.Words.{duty_word, count_word, output_word, word_byte}
use Rattle.rules.specs.Map.{place_at, is_carried}
use Rattle.rules.specs.Duty.{fault_byte, conditions_of, output_duty}
use Rattle.rules.specs.Valid.{valid_of}
use Rattle.rules.specs.Calls.{accepted, state_not_valid, not_carried, read_answer, accessed}

-- 00h: bits 7:1, and bit 0 watchdog status
abbrev pub control_byte : ℕ → Bool → ℕ
control_byte control status = keep 7 1 control + flag status

-- 00h, 01h, 12h, 13h, 14h
unfoldable pub box_byte : State → BoxRegister → ℕ
box_byte s Control = control_byte s.registers.control s.timer.status
box_byte s Frequency = s.registers.frequency
box_byte s Mask2 = s.registers.mask2
box_byte s Mask1 = s.registers.mask1
box_byte s Options = s.registers.options

-- 02h to 0Dh, 60h to 65h
unfoldable pub channel_byte : Channel → ChannelRegister → ℕ
channel_byte ch Config = ch.config
channel_byte ch Dynamics = ch.dynamics
channel_byte ch Window = ch.window

-- 40h to 4Bh, 50h to 5Bh
unfoldable pub target_word : Channel → WordRegister → ℕ
target_word ch Target = duty_word ch.target
target_word ch TargetCount = count_word (target_count ch)

-- "10h reads 0"; 11h; 18h to 2Fh: "Those of tachometers 7 to 12 (24h on) read FFE0h"; 30h to 3Bh
unfoldable pub status_byte : State → StatusRegister → ℕ
status_byte s Faults2 = 0
status_byte s Faults1 = fault_byte s.channels
status_byte s (Count i low) = word_byte low (count_word (channel s i).count)
status_byte s (OtherCount low) = word_byte low 0xFFE0
status_byte s (Output i low) = word_byte low (output_word (output_duty (conditions_of s) (channel s i)))

-- the byte that a place reads; where nothing stands, 0
unfoldable pub place_byte : State → Place → ℕ
place_byte s Absent = 0
place_byte s (ReadOnly r) = status_byte s r
place_byte s (Shared r) = box_byte s r
place_byte s (Own r i) = channel_byte (channel s i) r
place_byte s (OwnWord r i low) = word_byte low (target_word (channel s i) r)

-- "A read of 00h then clears the status bit"
abbrev pub after_read : State → ℕ → State
after_read s a = accessed (with_timer s (with_status s.timer (s.timer.status && not (eqb a 0x00))))

-- refusal 2, or the byte "from the state before it". "After a refused read the byte is 0"
unfoldable pub read_at : State → ℕ → Place → ReadAnswer
read_at s a place =
    if is_carried place then read_answer accepted (place_byte s place) (after_read s a)
    else read_answer not_carried 0 s

-- refusal 1 comes before it
unfoldable pub read_of : State → ℕ → ReadAnswer
read_of s a = if valid_of s then read_at s a (place_at a) else read_answer state_not_valid 0 s
