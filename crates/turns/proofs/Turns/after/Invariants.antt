-- So many ticks have passed. The measure: how many still wait, so that there are at most six rounds.
use Rattle.std.proofs.Common.{◌≡◌, ◌≤◌}
use Rattle.turns.specs.Turns.{turns_after}
use Rattle.turns.proofs.Rounds.{waiting}
use Rattle.turns.proofs.Turns.after.Given as goal

abbrev pub invariant-loop-tick : goal.invariant-loop-tick
invariant-loop-tick l = (l.past ≤ l.ticks) × (turns_after l.delay l.clock l.past l.fn.self ≡ l.now)

abbrev pub decreases-loop-tick : goal.decreases-loop-tick
decreases-loop-tick l = waiting l.now.waiters
