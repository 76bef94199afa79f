-- The numbers of the box and of the first i channels are put.
use Rattle.numbers.proofs.Filling.{Filled}
use Rattle.numbers.proofs.numbers_of.Given as goal

abbrev pub invariant-loop-i : goal.invariant-loop-i
invariant-loop-i l = Filled l.fn.state l.numbers l.i
