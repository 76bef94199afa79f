-- K8 by numbers alone: "channels go from 1 to 6; one whose ramp value would leave 0 may do so only at wait 0, and then sets the wait". Of a
-- channel that waits only the power of two counts whose multiples are the clocks at which it would leave. Nothing here has to be believed beside
-- the rules: `ticks` proves that it is what the one-tick rule gives.
use Rattle.std.specs.Prelude.{ℕ, zero, suc, ◌+◌, ◌-◌, ◌%◌, ◌^◌, Bool, false, ◌&&◌, List, [], ◌∷◌, Option, None, Some, eqb, if◌then◌else◌}
use Rattle.turns.specs.Types.{Waiter, Waits, Left, Turns}

abbrev pub turns : ℕ → List Waiter → Turns
turns wait ws = record { wait = wait; waiters = ws }

-- the power of two of one that waits, 0 to 7
abbrev pub period_of : Waiter → Option ℕ
period_of (Waits shift) = Some shift
period_of (Left past) = None

-- whether one leaves in the tick with this clock, at the wait that those before it leave
unfoldable pub may_leave : ℕ → ℕ → Waiter → Bool
may_leave clock wait (Waits shift) = eqb wait 0 && eqb (clock % 2 ^ shift) 0
may_leave clock wait (Left past) = false

-- one that leaves waits no more, and it is kept how many ticks had passed; and it sets the wait
abbrev pub turn : Bool → ℕ → Waiter → Waiter
turn leaves past w = if leaves then Left past else w

abbrev pub wait_then : Bool → ℕ → ℕ → ℕ
wait_then leaves delay wait = if leaves then delay else wait

-- all of them, each at the wait that those before it leave; and the wait that the last one leaves
unfoldable pub turns_tick : ℕ → ℕ → ℕ → ℕ → List Waiter → List Waiter
turns_tick clock past delay wait [] = []
turns_tick clock past delay wait (w ∷ ws) =
    let leaves = may_leave clock wait w in
    turn leaves past w ∷ turns_tick clock past delay (wait_then leaves delay wait) ws

unfoldable pub wait_left : ℕ → ℕ → ℕ → List Waiter → ℕ
wait_left clock delay wait [] = wait
wait_left clock delay wait (w ∷ ws) = wait_left clock delay (wait_then (may_leave clock wait w) delay wait) ws

abbrev pub ticked : ℕ → ℕ → ℕ → Turns → Turns
ticked clock past delay now = turns (wait_left clock delay now.wait now.waiters) (turns_tick clock past delay now.wait now.waiters)

-- the wait after so many ticks in which none leaves
abbrev pub fallen : ℕ → Turns → Turns
fallen n now = turns (now.wait - n) now.waiters

-- the wait and the channels after the ticks with the clocks t + 1, t + 2, ..: in each the wait falls first. A clock does not wrap here: the
-- periods divide its range, so that their multiples are the same
unfoldable pub turns_after : ℕ → ℕ → ℕ → Turns → Turns
turns_after delay t zero now = now
turns_after delay t (suc m) now = ticked (t + suc m) m delay (fallen 1 (turns_after delay t m now))

-- the ticks of m that one has waited
abbrev pub ticks_waited : ℕ → Waiter → ℕ
ticks_waited m (Waits shift) = m
ticks_waited m (Left past) = past
