-- One by one.
use Rattle.std.proofs.Common.{rules, arith}
use Rattle.laws.proofs.Each.{map-from_IsMapOf}
use Rattle.turns.specs.Turns.{ticks_waited}
use Rattle.ticks.proofs.waiting.waited_of.Goals as goal

pub returns : goal.returns
returns c = map-from_IsMapOf (ticks_waited c.args.ticks) c.map.ensures.items (omega arith) (λ x r q k. search rules)
