-- What the parts still to come make of the page stays the same.
use Rattle.std.proofs.Common.{drop}
use Rattle.lent.proofs.Stores.{Rests}
use Rattle.console_answers.specs.Texts.{spaced_parts}
use Rattle.console_answers.proofs.cabin.put_parts.Given as goal

abbrev pub invariant-loop-part : goal.invariant-loop-part
invariant-loop-part l = Rests (spaced_parts (drop l.part-index l.part-items)) l.page (spaced_parts l.part-items) l.fn.page
