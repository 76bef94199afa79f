-- A number of a state, or one of so many.
use Rattle.std.proofs.Common.{◌∙◌}
use Rattle.console_table.proofs.Parts.{state-number, any-number}
use Rattle.console_table.proofs.Parameters.get.Goals as goal

pub returns-in-StateNumbers : goal.returns-in-StateNumbers
returns-in-StateNumbers c = rw c.in-StateNumbers.is ((rw c.limit.ensures at c.then_some.ensures) ∙ state-number c.args.i)

pub returns-in-Any : goal.returns-in-Any
returns-in-Any c = rw c.in-Any.is (c.then_some-in-Any.ensures ∙ any-number c.in-Any.count c.args.i)
