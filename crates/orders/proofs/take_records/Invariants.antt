-- The records before the loop's index have been taken.
use Rattle.std.proofs.Common.{◌≡◌}
use Rattle.orders.proofs.Going.{Going}
use Rattle.orders.proofs.take_records.Given as goal

abbrev pub invariant-loop-taken : goal.invariant-loop-taken
invariant-loop-taken l = (l.run.taken ≡ l.taken) × Going l.fn.run.state l.string l.allowance l.fn.answers l.answers l.run.state l.taken l.run.answered l.at
