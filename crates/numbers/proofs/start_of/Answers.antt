-- Number by number.
use Rattle.numbers.specs.Numbers.{start_from}
use Rattle.numbers.proofs.start_of.Goals as goal

pub returns : goal.returns
unfolding start_from
returns c = cc
