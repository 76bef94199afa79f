-- The share of each channel.
use Rattle.std.proofs.Common.{arith, rules}
use Rattle.rules.specs.Duty.{conditions_of, output_duty}
use Rattle.rules.specs.Reading.{over512, share_of}
use Rattle.laws.proofs.Each.{map-from_IsMapOf}
use Rattle.reading.proofs.shares.Goals as goal

pub returns : goal.returns
returns c =
    map-from_IsMapOf (λ ch. over512 (share_of (output_duty (conditions_of c.args.state) ch))) c.map.ensures.items (omega arith) (λ x r q k. search rules)
