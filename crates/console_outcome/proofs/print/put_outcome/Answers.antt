-- No line is longer than its numbers and its bytes ask for.
use Rattle.console_outcome.proofs.Lines.{line-length}
use Rattle.console_outcome.proofs.print.put_outcome.Goals as goal

pub returns-clause-buffer_len_bound : goal.returns-clause-buffer_len_bound
returns-clause-buffer_len_bound c = line-length c.args.outcome _ (rw c.as_slice.ensures.same at c.as_slice.ensures.few)
