-- The divisor goes in: this bit of the quotient is 1.
use Rattle.speed.proofs.Division.{bit-set}
use Rattle.speed.proofs.divide.Goals as goal

pub loop-bit-preserved-then-divisor-rest : goal.loop-bit-preserved-then-divisor-rest
loop-bit-preserved-then-divisor-rest c = bit-set _ _ _ _ _ c.loop-bit.invariant c.loop-bit-test.true c.if-divisor-rest.true
