-- A state has as many numbers.
use Rattle.std.proofs.Common.{sym}
use Rattle.console_table.proofs.Rows.{state-numbers}
use Rattle.console_table.proofs.Parameters.count.Goals as goal

pub returns-in-StateNumbers : goal.returns-in-StateNumbers
returns-in-StateNumbers c = rw c.in-StateNumbers.is (sym state-numbers)
