-- Each channel stands still.
use Rattle.std.proofs.Common.{rules, arith}
use Rattle.rules.specs.Write.{stopped}
use Rattle.laws.proofs.Each.{map-from_IsMapOf}
use Rattle.write.proofs.all_stopped.Goals as goal

pub returns : goal.returns
returns c = map-from_IsMapOf stopped c.map.ensures.items (omega arith) (λ x r q k. search rules)
