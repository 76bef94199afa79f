-- "One tick", and the call that passes ticks.
use Rattle.std.specs.Prelude.{ℕ, zero, suc, ◌+◌, ◌-◌, ◌%◌, Bool, true, false, ◌&&◌, ◌||◌, List, [], ◌∷◌, leb, ltb, eqb, Option, None, Some, if◌then◌else◌}
use Rattle.rules.specs.Types.{Channel, Timer, State, Conditions, Answer}
use Rattle.rules.specs.State.{timer, with_wait, with_motion, with_ramp, with_channels, with_timer}
use Rattle.rules.specs.Registers.{spin_code, rate_code, asymmetric, watchdog_code, delay_code}
use Rattle.rules.specs.Time.{clock_after, watchdog_limit, spin_ticks, start_delay, rate_period}
use Rattle.rules.specs.Duty.{conditions_of, override_of}
use Rattle.rules.specs.Valid.{if_valid}
use Rattle.rules.specs.Calls.{accepted, answer}

-- the duty that a channel's ramp value moves to: its target duty
unfoldable pub wanted : Channel → ℕ
wanted ch = ch.target

-- the period in the direction of the target
abbrev pub period_of : Channel → ℕ
period_of ch = rate_period (rate_code ch.dynamics) (asymmetric ch.dynamics && ltb (wanted ch) ch.ramp)

-- "Spin-up is due at ramp value 0 with the target above 0 and the spin-up code not 0"
unfoldable pub spin_up_due : Channel → Bool
spin_up_due ch = eqb ch.ramp 0 && ltb 0 (wanted ch) && ltb 0 (spin_code ch.config)

-- "An override is in force when its line decides the duty"
abbrev pub in_force : Option ℕ → Bool
in_force None = false
in_force (Some duty) = true

abbrev pub overridden : Conditions → Channel → Bool
overridden k ch = in_force (override_of k ch)

-- the idle count at which the watchdog expires, 0 where it is off; and the ticks of the start delay that 14h has
abbrev pub idle_limit : State → ℕ
idle_limit s = watchdog_limit (watchdog_code s.registers.control)

abbrev pub delay_of : State → ℕ
delay_of s = start_delay (delay_code s.registers.options)

-- "1. The clock advances by one, wrapping. 2. If the watchdog code is not 0 and it has not expired, its idle count goes up by
-- one; at the code's limit it expires and the status bit is set". K8: the shared wait "falls by one each tick while above 0, after the
-- watchdog's step"
unfoldable pub timer_tick : ℕ → Timer → Timer
timer_tick code t =
    let clock = clock_after t.clock 1 in
    let wait = t.wait - 1 in
    if eqb code 0 || t.expired then timer clock t.idle t.expired t.status wait
    else if leb (watchdog_limit code) (t.idle + 1) then timer clock (t.idle + 1) true true wait
    else timer clock (t.idle + 1) t.expired t.status wait

-- "moves one towards the target"
unfoldable pub toward : ℕ → ℕ → ℕ
toward x goal =
    if ltb x goal then x + 1
    else if ltb goal x then x - 1
    else x

-- a running spin-up with so many ticks left. K7: the count of pulses is 0 "whenever no spin-up time remains", so what ends one clears it
abbrev pub spin_left : Channel → ℕ → Channel
spin_left ch left = with_motion ch ch.ramp left (if eqb left 0 then 0 else ch.pulses)

-- 3, of a channel by itself: "Under an override nothing changes. Else if spin-up runs, its remaining ticks fall by one. Else if
-- [spin-up is due], spin-up starts: remaining ticks as coded, ramp value 511. Else with rate code 0 the ramp value becomes the
-- target. Else, if the clock is a multiple of the period, the ramp value moves one towards the target". K7: "The count of pulses begins anew
-- with each spin-up". K8 lets one that would leave 0 do so only in its turn: below
unfoldable pub channel_tick : Bool → ℕ → Channel → Channel
channel_tick held clock ch =
    if held then ch
    else if ltb 0 ch.spin then spin_left ch (ch.spin - 1)
    else if spin_up_due ch then with_motion ch 511 (spin_ticks (spin_code ch.config)) 0
    else if eqb (rate_code ch.dynamics) 0 then with_ramp ch (wanted ch)
    else if eqb (clock % period_of ch) 0 then with_ramp ch (toward ch.ramp (wanted ch))
    else ch

-- the same under the overrides of a tick, at its clock
abbrev pub rule_at : Conditions → ℕ → Channel → Channel
rule_at k clock ch = channel_tick (overridden k ch) clock ch

-- ---- K8: "Then channels go from 1 to 6; one whose ramp value would leave 0 may do so only at wait 0, and then sets the wait". The rule is
-- that of a channel by itself, in this tick

-- its ramp value would leave 0: by the start of a spin-up, at once with rate code 0, or by a step
unfoldable pub leaves_zero : (Channel → Channel) → Channel → Bool
leaves_zero rule ch = eqb ch.ramp 0 && ltb 0 (rule ch).ramp

-- a channel in its turn: one that would leave 0 and may not stays as it is
unfoldable pub in_turn : (Channel → Channel) → ℕ → Channel → Channel
in_turn rule wait ch = if leaves_zero rule ch && ltb 0 wait then ch else rule ch

-- the wait after it: one that leaves 0 sets it to the delay
unfoldable pub wait_after : (Channel → Channel) → ℕ → ℕ → Channel → ℕ
wait_after rule delay wait ch = if leaves_zero rule ch && eqb wait 0 then delay else wait

-- the wait after all of them, and all of them, each at the wait that those before it leave
unfoldable pub wait_tick : (Channel → Channel) → ℕ → ℕ → List Channel → ℕ
wait_tick rule delay wait [] = wait
wait_tick rule delay wait (ch ∷ chs) = wait_tick rule delay (wait_after rule delay wait ch) chs

unfoldable pub channels_tick : (Channel → Channel) → ℕ → ℕ → List Channel → List Channel
channels_tick rule delay wait [] = []
channels_tick rule delay wait (ch ∷ chs) = in_turn rule wait ch ∷ channels_tick rule delay (wait_after rule delay wait ch) chs

-- one tick: the overrides are those after step 2
unfoldable pub tick : State → State
tick s =
    let next = with_timer s (timer_tick (watchdog_code s.registers.control) s.timer) in
    let rule = rule_at (conditions_of next) next.timer.clock in
    let wait = next.timer.wait in
    with_channels
    (with_timer next (with_wait next.timer (wait_tick rule (delay_of s) wait s.channels)))
    (channels_tick rule (delay_of s) wait s.channels)

-- a rule applied n times
unfoldable pub iterate : {A : Type 0} → ℕ → (A → A) → A → A
iterate zero rule a = a
iterate (suc n) rule a = iterate n rule (rule a)

-- the call; the paper calls it a jump
unfoldable pub ticks_passed : State → ℕ → Answer
ticks_passed s n = if_valid s (answer accepted (iterate n tick s))
