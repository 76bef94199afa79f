-- What is put is no longer than its texts are at most; a refused reading is 0.
use Rattle.console_galley.proofs.Telling.{degrees-length, nothing-over8}
use Rattle.console_galley.proofs.degrees.put_degrees.Goals as goal

pub returns-in-Ok-clause-galley_len_bound : goal.returns-in-Ok-clause-galley_len_bound
returns-in-Ok-clause-galley_len_bound c = degrees-length _ _

pub returns-in-Err-clause-put : goal.returns-in-Err-clause-put
returns-in-Err-clause-put c =
    rw (← c.in-Err.ensures.equal, nothing-over8, ← c.number.ensures, ← c.from.ensures) c.put_answer-in-Err.ensures

pub returns-in-Err-clause-galley_len_bound : goal.returns-in-Err-clause-galley_len_bound
returns-in-Err-clause-galley_len_bound c = degrees-length _ _
