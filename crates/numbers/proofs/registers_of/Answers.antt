-- Number by number.
use Rattle.numbers.specs.Numbers.{registers_from}
use Rattle.numbers.proofs.registers_of.Goals as goal

pub returns : goal.returns
unfolding registers_from
returns c = cc
