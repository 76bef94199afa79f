-- As many numbers, each of which may be any.
use Rattle.console_table.proofs.Parts.{all_any}
use Rattle.console_table.proofs.Parameters.widened.Goals as goal

pub returns : goal.returns
returns c = rw c.count.ensures (all_any _)
