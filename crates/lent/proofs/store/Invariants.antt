-- What the bytes still to come make of the buffer stays the same.
use Rattle.std.proofs.Common.{drop}
use Rattle.lent.proofs.Stores.{Remains}
use Rattle.lent.proofs.store.Given as goal

abbrev pub invariant-loop-byte : goal.invariant-loop-byte
invariant-loop-byte l = Remains (drop l.byte-index l.text) l.at l.bytes l.text l.fn.from l.fn.bytes
