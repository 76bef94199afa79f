-- Past the buffer's end nothing more is stored.
use Rattle.std.proofs.Common.{arith, length-drop}
use Rattle.lent.proofs.Stores.{left-out}
use Rattle.lent.proofs.store.Goals as goal

pub returns-then-bytes-at : goal.returns-then-bytes-at
returns-then-bytes-at c = left-out _ (rw length-drop (omega arith)) c.if-bytes-at.true c.max.ensures c.loop-byte.invariant
