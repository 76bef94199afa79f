-- A space is put, and then the number.
use Rattle.lent.proofs.Stores.{puts-append}
use Rattle.console_chart.proofs.put_duty.Goals as goal

pub returns : goal.returns
returns c = puts-append c.put.ensures (rw c.from.ensures at c.put_padded.ensures)
