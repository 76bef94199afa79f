-- A number as an f64, divided by 512, is the fraction rounded.
use Rattle.std.proofs.Common.{arith}
use Rattle.laws.proofs.Exact.{divided-by-512}
use Rattle.reading.proofs.over_512.Goals as goal

pub returns : goal.returns
unfolding lib.Ieee.of_bits
returns c = rw c.from.ensures (divided-by-512 c.args.n (omega arith))
