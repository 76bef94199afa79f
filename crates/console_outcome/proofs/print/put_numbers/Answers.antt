-- One more number is put, with a space before it where it is not the first.
use Rattle.std.proofs.Common.{arith, ◌+◌, nat_lt}
use borrow.Author.Tests.{lt-ltb}
use Rattle.lent.proofs.Stores.{part-puts, none-rests, puts-append}
use Rattle.console_outcome.proofs.Lines.{numbers-next, numbers-end}
use Rattle.console_outcome.proofs.print.put_numbers.Goals as goal

pub loop-i-preserved : goal.loop-i-preserved
loop-i-preserved c =
    let i = c.loop-i.i in
    rw (lt-ltb 0 (i + 1) (omega arith))
    (part-puts _ _ (rw (numbers-next c.args.signed c.args.numbers.now i (nat_lt 0 i) (omega arith)) at c.loop-i.invariant)
    (puts-append c.put_space.ensures c.put_number.ensures))

pub returns : goal.returns
returns c =
    let i = c.loop-i.i in
    none-rests (rw (numbers-end c.args.signed c.args.numbers.now i (nat_lt 0 i) (omega arith)) at c.loop-i.invariant)
