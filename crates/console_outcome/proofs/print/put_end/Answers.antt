-- A space, the bytes and a line feed are put one after the other.
use Rattle.lent.proofs.Stores.{puts-append}
use Rattle.console_outcome.proofs.print.put_end.Goals as goal

pub returns-in-Some : goal.returns-in-Some
returns-in-Some c = rw c.in-Some.is (puts-append c.put_space.ensures (puts-append c.put_bytes.ensures c.put.ensures))
