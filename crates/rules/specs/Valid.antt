-- A valid state, which the paper calls sound. What the types hold by themselves is not tested: that there are six channels, that
-- configuration, window and frequency are bytes, that the clock has 32 bits.
use Rattle.std.specs.Prelude.{ℕ, Bool, not, ◌&&◌, ◌||◌, leb, ltb, eqb, if◌then◌else◌}
use Rattle.rules.specs.Types.{Channel, Registers, StartValues, Timer, State, Answer}
use Rattle.rules.specs.Basics.{◌implies◌, every, flag}
use Rattle.rules.specs.Registers.{standby, watchdog_code, monitor_only, target_count, control_kept, dynamics_kept, mask_kept, options_kept, config_refused}
use Rattle.rules.specs.Time.{watchdog_limit, ends_early}
use Rattle.rules.specs.Calls.{state_not_valid, answer}

-- "each field is in range, unkept bits are 0, refusal 4's bits are clear": a channel's settings, and its results
abbrev pub valid_settings : Channel → Bool
valid_settings ch =
    not (config_refused ch.config)
    && eqb (dynamics_kept ch.dynamics) ch.dynamics
    && ltb ch.target 512
    && ltb (target_count ch) 2048

abbrev pub valid_results : Channel → Bool
valid_results ch = ltb ch.count 2048 && leb ch.queue 6

-- "a channel in monitor or a box in standby has ramp value and spin-up time 0, a running spin-up has ramp value 511"
abbrev pub valid_motion : Bool → Channel → Bool
valid_motion still ch =
    ltb ch.ramp 512
    && leb ch.spin 1024
    && (still implies (eqb ch.ramp 0 && eqb ch.spin 0))
    && (ltb 0 ch.spin implies eqb ch.ramp 511)

unfoldable pub valid_channel : Bool → Channel → Bool
valid_channel in_standby ch = valid_settings ch && valid_results ch && valid_motion (in_standby || monitor_only ch.config) ch

-- K7, of the count of pulses: "as stored it is 0 or 1, and 0 under A and whenever no spin-up time remains"
unfoldable pub valid_pulses : Bool → Channel → Bool
valid_pulses early ch = leb ch.pulses (flag (early && ltb 0 ch.spin))

-- "unkept bits are 0", of the registers of the box
unfoldable pub valid_registers : Registers → Bool
valid_registers r =
    eqb (control_kept r.control) r.control
    && eqb (mask_kept r.mask2) r.mask2
    && eqb (mask_kept r.mask1) r.mask1
    && eqb (options_kept r.options) r.options

-- "each field is in range", of the pin-set values: "watchdog code, spin-up code (each 0 to 3), power-on target (0 to 511)", and K7's
-- modification, "A is number 0, B is 1"
unfoldable pub valid_start : StartValues → Bool
valid_start v = ltb v.watchdog 4 && ltb v.spinup 4 && ltb v.target 512 && ltb v.modification 2

-- "watchdog off means idle 0 and not expired, and otherwise idle is below the limit and not expired, or at it and expired"
abbrev pub valid_watchdog : ℕ → ℕ → Bool → Bool
valid_watchdog code idle expired =
    if eqb code 0 then eqb idle 0 && not expired
    else if expired then eqb idle (watchdog_limit code)
    else ltb idle (watchdog_limit code)

-- K8: "wait at most 2,048"
unfoldable pub valid_timer : ℕ → Timer → Bool
valid_timer code t = valid_watchdog code t.idle t.expired && leb t.wait 2048

unfoldable pub valid_of : State → Bool
valid_of s =
    valid_registers s.registers
    && valid_start s.start
    && valid_timer (watchdog_code s.registers.control) s.timer
    && every (valid_channel (standby s.registers.control)) s.channels
    && every (valid_pulses (ends_early s.start.modification)) s.channels

-- refusal 1 comes before all others: "state not sound", "state as given"
abbrev pub if_valid : State → Answer → Answer
if_valid s given = if valid_of s then given else answer state_not_valid s
