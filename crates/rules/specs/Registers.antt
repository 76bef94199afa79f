-- "The carried registers": the fields of each register, and which of its bits are kept.
use Rattle.std.specs.Prelude.{ℕ, ◌+◌, Bool, ◌||◌}
use Rattle.rules.specs.Types.{Channel}
use Rattle.rules.specs.Basics.{bit, bits, keep}

-- ---- the fields, each of the byte that its register reads

-- 00h: bit 7 standby, 2:1 watchdog code
abbrev pub standby : ℕ → Bool
standby control = bit 7 control

abbrev pub watchdog_code : ℕ → ℕ
watchdog_code control = bits 2 1 control

-- 02h to 07h: 6:5 spin-up code, 4 monitor only, 3 tachometer enabled
abbrev pub spin_code : ℕ → ℕ
spin_code config = bits 6 5 config

abbrev pub monitor_only : ℕ → Bool
monitor_only config = bit 4 config

abbrev pub tachometer_enabled : ℕ → Bool
tachometer_enabled config = bit 3 config

-- 08h to 0Dh: 7:5 speed range, 4:2 rate code, 1 asymmetric fall
abbrev pub range_code : ℕ → ℕ
range_code dynamics = bits 7 5 dynamics

abbrev pub rate_code : ℕ → ℕ
rate_code dynamics = bits 4 2 dynamics

abbrev pub asymmetric : ℕ → Bool
asymmetric dynamics = bit 1 dynamics

-- 13h: "bit 0 for channel 1 to bit 5 for channel 6"
abbrev pub masked : ℕ → ℕ → Bool
masked mask i = bit i mask

-- 14h: 7:5 start delay, 3:2 failed-fan option, 1:0 queue code
abbrev pub delay_code : ℕ → ℕ
delay_code options = bits 7 5 options

abbrev pub failed_fan_option : ℕ → ℕ
failed_fan_option options = bits 3 2 options

abbrev pub queue_code : ℕ → ℕ
queue_code options = bits 1 0 options

-- 50h to 5Bh: target count
abbrev pub target_count : Channel → ℕ
target_count ch = ch.target_count

-- ---- what a register keeps of a written byte: "Bits not named as kept read 0"

-- 00h: 7, 5, 3 and 2:1. Bit 6 is the reset, which reads 0; "bits 4 and 0 of a written byte are ignored"
abbrev pub control_kept : ℕ → ℕ
control_kept b = keep 7 7 b + keep 5 5 b + keep 3 1 b

-- 08h to 0Dh: 7:5, 4:2 and 1
abbrev pub dynamics_kept : ℕ → ℕ
dynamics_kept b = keep 7 1 b

-- 12h and 13h: 5:0
abbrev pub mask_kept : ℕ → ℕ
mask_kept b = keep 5 0 b

-- 14h: 7:5, 3:2 and 1:0
abbrev pub options_kept : ℕ → ℕ
options_kept b = keep 7 5 b + keep 3 0 b

-- refusal 4: "fan configuration byte with bit 7, 2 or 0 set" (RPM mode, locked rotor, PWM pin used as tachometer)
abbrev pub config_refused : ℕ → Bool
config_refused b = bit 7 b || bit 2 b || bit 0 b
