-- The record that is put is told from the buffer, which has room for it.
use Rattle.std.proofs.Common.{arith}
use Rattle.console_orders.proofs.Running.{record-told}
use Rattle.console_orders.proofs.packets.encode_record.Goals as goal

pub returns : goal.returns
returns c = record-told _ _ (omega arith) c.encode-long.ensures (c.tell_as.ensures _)
