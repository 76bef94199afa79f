-- The numbers that are kept are the first of those given.
use Rattle.console_outcome.proofs.Taken.{front-taken}
use Rattle.console_outcome.proofs.list.NumberList.first_of.Goals as goal

pub returns : goal.returns
returns c = front-taken _ _ _ _ _ c.min-count.ensures c.copy_from_slice.ensures.after
