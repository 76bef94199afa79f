-- Part by part.
use Rattle.std.proofs.Common.{rules}
use Rattle.numbers.specs.Numbers.{channel_at, state_from}
use Rattle.numbers.proofs.Made.{made-from_IsFromFnResult}
use Rattle.numbers.proofs.state_of.Goals as goal

pub returns : goal.returns
unfolding state_from
returns c =
    let channels = made-from_IsFromFnResult (channel_at c.args.values.now) c.from_fn.ensures.items (λ x r q k. search rules) in
    cc
