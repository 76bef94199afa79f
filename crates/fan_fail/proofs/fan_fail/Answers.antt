-- Of a valid state, by counts of bits.
use Rattle.std.proofs.Common.{◌≡◌, sym, ◌∙◌, ap, length, rules}
use Rattle.laws.proofs.Each.{length_before}
use Rattle.laws.proofs.FanFail.{unmasked, fan-fail-none, fan-fail-some}
use Rattle.fan_fail.proofs.fan_fail.Goals as goal

pub returns-then-failed-eq0 : goal.returns-then-failed-eq0
returns-then-failed-eq0 c =
    let six : length c.args.state.channels ≡ 6 = search (rules, length_before) in
    fan-fail-none c.args.state (sym c.valid.ensures ∙ c.if-not-valid.false) six (rw c.fault_byte.ensures at c.if-failed-eq0.true)

pub returns : goal.returns
returns c =
    let six : length c.args.state.channels ≡ 6 = search (rules, length_before) in
    fan-fail-some c.args.state (sym c.valid.ensures ∙ c.if-not-valid.false) six _ (ap (λ x. unmasked x c.args.state.registers.mask1) c.fault_byte.ensures) c.if-failed-eq0.false
