-- Channel by channel.
use Rattle.std.proofs.Common.{rules, arith}
use Rattle.laws.proofs.Each.{map-from_IsMapOf}
use Rattle.ticks.specs.Waiters.{waiter_of}
use Rattle.ticks.proofs.waiting.waiters_of.Goals as goal

pub returns : goal.returns
returns c = map-from_IsMapOf (waiter_of c.args.now) c.map.ensures.items (omega arith) (λ x r q k. search rules)
