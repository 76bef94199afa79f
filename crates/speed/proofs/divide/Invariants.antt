-- After each turn the quotient so far and what is left make up the dividend.
use Rattle.speed.proofs.Division.{Dividing}
use Rattle.speed.proofs.divide.Given as goal

abbrev pub invariant-loop-bit : goal.invariant-loop-bit
invariant-loop-bit l = Dividing l.dividend l.divisor l.quotient l.rest l.bit
