-- No line of a speed is longer than its numbers or its words ask for.
use Rattle.console_answers.proofs.Lengths.{speed-length}
use Rattle.console_answers.proofs.speeds.put_speed.Goals as goal

pub returns-clause-values_len_bound : goal.returns-clause-values_len_bound
returns-clause-values_len_bound c = speed-length _
