-- The call write, of a byte.
use Rattle.std.specs.Prelude.{ℕ, not, ◌&&◌, map, set, if◌then◌else◌}
use Rattle.rules.specs.Types.{Channel, Registers, State, BoxRegister, Control, Frequency, Mask2, Mask1, Options, ChannelRegister, Config, Dynamics, Window, Place, Absent, ReadOnly, Shared, Own, OwnWord, Answer}
use Rattle.rules.specs.Basics.{bit}
use Rattle.rules.specs.State.{channel, registers, with_settings, with_motion, with_channels, with_registers}
use Rattle.rules.specs.Registers.{target_count, control_kept, dynamics_kept, mask_kept, options_kept, config_refused}
use Rattle.rules.specs.Map.{place_at, is_carried, is_read_only, is_target, is_config}
use Rattle.rules.specs.Valid.{if_valid}
use Rattle.rules.specs.Start.{as_at_start}
use Rattle.rules.specs.Calls.{accepted, not_carried, read_only, config_not_allowed, wrong_width, unless_refused, accessed}

-- ---- a channel's register

-- ramp value and spin-up time become 0, and so K7's count of pulses
abbrev pub stopped : Channel → Channel
stopped ch = with_motion ch 0 0 0

-- "To a fan configuration with bit 4: that channel's ramp value and spin-up time become 0"
unfoldable pub channel_written : Channel → ℕ → ChannelRegister → Channel
channel_written ch b Config =
    let next = with_settings ch b ch.dynamics ch.window ch.target (target_count ch) in
    if bit 4 b then stopped next else next
channel_written ch b Dynamics = with_settings ch ch.config (dynamics_kept b) ch.window ch.target (target_count ch)
channel_written ch b Window = with_settings ch ch.config ch.dynamics b ch.target (target_count ch)

-- ---- a register of the box

-- "To 00h with bit 6: everything but clock and pin level as at start, the other bits ignored"
abbrev pub reset : State → State
reset s = as_at_start s.start s.timer.clock s.pin

-- the byte goes into its register, less the bits that it does not keep
abbrev pub stored : Registers → ℕ → BoxRegister → Registers
stored r b Control = registers (control_kept b) r.frequency r.mask2 r.mask1 r.options
stored r b Frequency = registers r.control b r.mask2 r.mask1 r.options
stored r b Mask2 = registers r.control r.frequency (mask_kept b) r.mask1 r.options
stored r b Mask1 = registers r.control r.frequency r.mask2 (mask_kept b) r.options
stored r b Options = registers r.control r.frequency r.mask2 r.mask1 (options_kept b)

-- "To 00h with bit 7 and not 6: all ramp values and spin-up times become 0"
unfoldable pub box_written : State → ℕ → BoxRegister → State
box_written s b Control =
    let next = with_registers s (stored s.registers b Control) in
    if bit 6 b then reset s
    else if bit 7 b then with_channels next (map stopped s.channels)
    else next
box_written s b Frequency = with_registers s (stored s.registers b Frequency)
box_written s b Mask2 = with_registers s (stored s.registers b Mask2)
box_written s b Mask1 = with_registers s (stored s.registers b Mask1)
box_written s b Options = with_registers s (stored s.registers b Options)

-- ---- the call

-- the byte goes into the register of one channel
abbrev pub own_written : State → ℕ → ChannelRegister → ℕ → State
own_written s b r i = with_channels s (set s.channels i (channel_written (channel s i) b r))

-- the byte goes to what stands at an address
unfoldable pub written : State → ℕ → Place → State
written s b Absent = s
written s b (ReadOnly r) = s
written s b (Shared r) = box_written s b r
written s b (Own r i) = own_written s b r i
written s b (OwnWord r i low) = s

-- 2, 3, then K6's "8, after 3: a byte write to 40h to 4Bh or 50h to 5Bh", and 4, by what stands at the address
unfoldable pub write_refusal : Place → ℕ → ℕ
write_refusal place b =
    if not (is_carried place) then not_carried
    else if is_read_only place then read_only
    else if is_target place then wrong_width
    else if is_config place && config_refused b then config_not_allowed
    else accepted

unfoldable pub write_of : State → ℕ → ℕ → Answer
write_of s a b = let place = place_at a in if_valid s (unless_refused (write_refusal place b) s (written (accessed s) b place))
