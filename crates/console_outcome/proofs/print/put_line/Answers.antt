-- The numbers are put, and then what comes after them.
use Rattle.console_outcome.proofs.Lines.{line-puts, some-numbers}
use Rattle.console_outcome.proofs.print.put_line.Goals as goal

pub returns : goal.returns
returns c = line-puts _ _ _ (rw c.is_empty.ensures (some-numbers _)) c.put_numbers.ensures c.put_end.ensures
