-- All the numbers of the state are told.
use Rattle.std.proofs.Common.{rules}
use Rattle.std.proofs.lemmas.List.{take_all}
use Rattle.numbers.specs.Numbers.{number_count}
use Rattle.console_answers.proofs.controller.dump.Goals as goal

pub returns : goal.returns
returns c = λ buffer. rw (take_all number_count c.numbers_of.result (search rules), c.numbers_of.ensures.0) at c.tell.ensures buffer
