-- The space and the number are put one after the other.
use Rattle.lent.proofs.Stores.{puts-append}
use Rattle.console_answers.proofs.cabin.put_part.Goals as goal

pub returns : goal.returns
returns c = puts-append c.put.ensures c.put_512ths.ensures
