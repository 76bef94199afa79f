-- The number, a space, the degrees and a line feed are put one after the other.
use Rattle.lent.proofs.Stores.{puts-append}
use Rattle.console_galley.specs.Commands.{degrees_text}
use Rattle.console_galley.proofs.degrees.put_answer.Goals as goal

pub returns : goal.returns
unfolding degrees_text
returns c = puts-append c.put_decimal.ensures (puts-append c.put.ensures (puts-append c.put_8ths.ensures c.put-2.ensures))
