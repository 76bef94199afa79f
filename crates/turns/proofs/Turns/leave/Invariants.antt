-- The waiters before the index have had their turn.
use Rattle.turns.proofs.Tick.{Turned}
use Rattle.turns.proofs.Turns.leave.Given as goal

abbrev pub invariant-loop-waiter : goal.invariant-loop-waiter
invariant-loop-waiter l = Turned l.clock l.past l.delay l.fn.self l.wait l.waiter-items l.waiter-index
