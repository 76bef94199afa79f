-- One channel more is put.
use Rattle.std.proofs.Common.{rules, refl, arith, ◌≡◌, length}
use Rattle.laws.proofs.Each.{length_before}
use Rattle.rules.specs.State.{blank}
use Rattle.numbers.proofs.Filling.{filled_none, filled_more, filled-all}
use Rattle.numbers.proofs.numbers_of.Goals as goal

pub loop-i-init : goal.loop-i-init
loop-i-init c = rw c.copy_from_slice.ensures.after (filled_none c.args.state c.box_numbers.result _ c.box_numbers.ensures refl)

pub loop-i-preserved : goal.loop-i-preserved
loop-i-preserved c =
    let six : length c.args.state.channels ≡ 6 = search (rules, length_before) in
    rw c.copy_from_slice-in-loop-i.ensures.after
    (filled_more c.args.state six c.loop-i.numbers c.loop-i.i c.loop-i.invariant blank c.channel_numbers.result _ (omega arith) c.channel_numbers.ensures (omega arith))

pub returns : goal.returns
returns c =
    let six : length c.args.state.channels ≡ 6 = search (rules, length_before) in
    filled-all c.args.state six c.loop-i.numbers c.loop-i.i c.loop-i.invariant (omega arith) (omega arith)
