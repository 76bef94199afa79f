-- A reading is seven parts, the seconds first.
use Rattle.std.proofs.Common.{rules}
use Rattle.lent.proofs.Stores.{puts-append}
use Rattle.console_answers.specs.Texts.{spaced_parts}
use Rattle.console_answers.proofs.Lengths.{reading-length}
use Rattle.console_answers.proofs.cabin.put_reading.Goals as goal

pub returns-clause-put : goal.returns-clause-put
unfolding spaced_parts
returns-clause-put c = puts-append c.put_part.ensures c.put_parts.ensures

pub returns-clause-reading_len_bound : goal.returns-clause-reading_len_bound
returns-clause-reading_len_bound c = reading-length c.args.reading (search rules)
