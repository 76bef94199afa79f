-- One more byte is put as two digits.
use Rattle.std.proofs.Common.{arith}
use Rattle.lent.proofs.Stores.{part-puts, none-rests}
use Rattle.console_hex.proofs.Pairs.{hex-next, hex-end}
use Rattle.console_hex.proofs.put_pairs.Goals as goal

pub loop-byte-preserved : goal.loop-byte-preserved
loop-byte-preserved c =
    part-puts _ _ (rw (hex-next c.args.bytes.now c.loop-byte.byte-index (omega arith)) at c.loop-byte.invariant)
    (rw (c.hex_digit.ensures, c.hex_digit-in-loop-byte.ensures) at c.put.ensures)

pub returns : goal.returns
returns c = none-rests (rw (hex-end c.args.bytes.now c.loop-byte.byte-index (omega arith)) at c.loop-byte.invariant)
