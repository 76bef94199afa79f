-- A refused reading is 0 throughout.
use Rattle.console_answers.proofs.Lengths.{nothing-over512}
use Rattle.console_answers.proofs.cabin.put_cabin.Goals as goal

pub returns-in-Err-clause-put : goal.returns-in-Err-clause-put
returns-in-Err-clause-put c = rw (← c.in-Err.ensures.equal, nothing-over512, ← c.number.ensures, ← c.from.ensures) c.put_answer-in-Err.ensures.put

pub returns-in-Err-clause-state_len_bound : goal.returns-in-Err-clause-state_len_bound
returns-in-Err-clause-state_len_bound c = rw (← c.in-Err.ensures.equal, nothing-over512, ← c.number.ensures, ← c.from.ensures) c.put_answer-in-Err.ensures.reading_len_bound
