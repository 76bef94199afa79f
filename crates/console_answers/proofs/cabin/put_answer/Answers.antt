-- The refusal, the reading and a line feed are put one after the other.
use Rattle.lent.proofs.Stores.{puts-append}
use Rattle.console_answers.specs.Texts.{cabin_text}
use Rattle.console_answers.proofs.Lengths.{cabin-length}
use Rattle.console_answers.proofs.cabin.put_answer.Goals as goal

pub returns-clause-put : goal.returns-clause-put
unfolding cabin_text
returns-clause-put c = puts-append c.put_decimal.ensures (puts-append c.put_reading.ensures.put c.put.ensures)

pub returns-clause-reading_len_bound : goal.returns-clause-reading_len_bound
returns-clause-reading_len_bound c = cabin-length c.args.refusal c.args.reading c.put_reading.ensures.reading_len_bound
