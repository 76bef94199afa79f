-- What the pairs still to come make of the page stays the same.
use Rattle.std.proofs.Common.{drop, map}
use Rattle.lent.proofs.Stores.{Rests}
use Rattle.console_hex.proofs.Pairs.{byte_in}
use Rattle.console_hex.proofs.take_bytes.Given as goal

abbrev pub invariant-loop-high : goal.invariant-loop-high
invariant-loop-high l = Rests (map byte_in (drop l.high-index l.high-items)) l.page (map byte_in l.high-items) l.fn.page
