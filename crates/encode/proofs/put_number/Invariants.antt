-- The groups still to come are those of what is left of the number.
use Rattle.lent.proofs.Stores.{Rests}
use Rattle.strings.specs.Encode.{number_bytes}
use Rattle.encode.proofs.put_number.Given as goal

abbrev pub invariant-loop-rest : goal.invariant-loop-rest
invariant-loop-rest l = Rests (number_bytes l.rest) l.page (number_bytes l.number) l.fn.page

abbrev pub decreases-loop-rest : goal.decreases-loop-rest
decreases-loop-rest l = l.rest
