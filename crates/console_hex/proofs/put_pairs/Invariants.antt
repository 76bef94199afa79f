-- What the bytes still to come make of the page stays the same.
use Rattle.std.proofs.Common.{drop}
use Rattle.lent.proofs.Stores.{Rests}
use Rattle.console_hex.specs.Bytes.{hex_pairs}
use Rattle.console_hex.proofs.put_pairs.Given as goal

abbrev pub invariant-loop-byte : goal.invariant-loop-byte
invariant-loop-byte l = Rests (hex_pairs (drop l.byte-index l.bytes)) l.page (hex_pairs l.bytes) l.fn.page
