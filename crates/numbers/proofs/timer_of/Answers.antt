-- Number by number.
use Rattle.std.proofs.Common.{◌≡◌, arith}
use Rattle.lent.specs.Values.{number}
use Rattle.numbers.specs.Numbers.{long_of, timer_from}
use Rattle.numbers.proofs.timer_of.Goals as goal

pub returns : goal.returns
unfolding timer_from
returns c = let clock : c.value.result ≡ long_of (number c.args.values.now 0) = omega arith in cc
