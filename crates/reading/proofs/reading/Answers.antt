-- A refused reading is all 0, and any other is the clock and the shares, each exact.
use Rattle.std.proofs.Common.{◌≡◌, ◌<◌, ◌^◌, sym, ◌∙◌, length, rules}
use Rattle.laws.proofs.Each.{length_before}
use Rattle.laws.proofs.Exact.{reading-refused, reading-given, told-exact}
use Rattle.reading.proofs.reading.Goals as goal

pub returns-then-not-valid : goal.returns-then-not-valid
returns-then-not-valid c =
    let clock-fits : c.args.state.timer.clock < 2 ^ 32 = search rules in
    let six : length c.args.state.channels ≡ 6 = search (rules, length_before) in
    let told = reading-refused c.args.state (sym c.valid.ensures ∙ c.if-not-valid.true) in
    record { equal = told; exact = told-exact c.args.state _ clock-fits six told }

pub returns : goal.returns
returns c =
    let clock-fits : c.args.state.timer.clock < 2 ^ 32 = search rules in
    let six : length c.args.state.channels ≡ 6 = search (rules, length_before) in
    let told = reading-given c.args.state _ (sym c.valid.ensures ∙ c.if-not-valid.false) c.over_512.ensures c.shares.ensures in
    record { equal = told; exact = told-exact c.args.state _ clock-fits six told }
