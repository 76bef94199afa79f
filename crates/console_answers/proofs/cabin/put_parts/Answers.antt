-- One more part is put.
use Rattle.std.proofs.Common.{rules}
use lib.Ieee.{nan}
use Rattle.lent.proofs.Stores.{part-puts, none-rests}
use Rattle.console_answers.proofs.Lengths.{parts_next, parts-end}
use Rattle.console_answers.proofs.cabin.put_parts.Goals as goal

pub loop-part-preserved : goal.loop-part-preserved
loop-part-preserved c =
    part-puts _ _ (rw (parts_next c.args.parts c.loop-part.part-index nan (search rules)) at c.loop-part.invariant) c.put_part.ensures

pub returns : goal.returns
returns c = none-rests (rw (parts-end c.args.parts c.loop-part.part-index nan (search rules)) at c.loop-part.invariant)
