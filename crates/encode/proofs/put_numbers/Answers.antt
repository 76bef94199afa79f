-- A number that is put is the first of those still to come.
use Rattle.lent.proofs.Stores.{part-puts, none-rests}
use Rattle.encode.proofs.Groups.{number-first, none-left}
use Rattle.encode.proofs.put_numbers.Goals as goal

pub loop-number-preserved : goal.loop-number-preserved
loop-number-preserved c = part-puts _ _ (rw (number-first _ _ c.loop-number-test.true) at c.loop-number.invariant) c.put_number.ensures

pub returns : goal.returns
returns c = none-rests (rw (none-left _ _ c.loop-number-test.false) at c.loop-number.invariant)
