-- Number by number.
use Rattle.numbers.specs.Numbers.{channel_from}
use Rattle.numbers.proofs.channel_of.Goals as goal

pub returns : goal.returns
unfolding channel_from
returns c = cc
