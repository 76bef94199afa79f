-- Line after line is put, after the time that the chart spans.
use Rattle.std.proofs.Common.{◌≡◌, ◌+◌, true, lt-ltb, sym, ◌∙◌, arith}
use Rattle.rules.specs.Valid.{valid_of}
use Rattle.lent.proofs.Stores.{part-puts, none-rests, puts-append}
use Rattle.console_chart.specs.Chart.{line_of, chart_of, time_line}
use Rattle.console_chart.proofs.Texts.{text-next, text-last}
use Rattle.console_chart.proofs.put_chart.Goals as goal

pub loop-at-preserved : goal.loop-at-preserved
loop-at-preserved c =
    let made = rw (lt-ltb c.loop-at.at 6 (omega arith)) at c.new.ensures in
    let told : c.unwrap.result ≡ c.loop-at.at = cc in
    let next = text-next (line_of c.args.state c.args.ticks) (c.loop-at.at + 1) 6 (omega arith) in
    part-puts _ _ (rw next at c.loop-at.invariant) (rw told at c.put_line.ensures)

pub returns-clause-put : goal.returns-clause-put
unfolding chart_of time_line
returns-clause-put c =
    let good : valid_of c.args.state ≡ true = sym c.valid.ensures ∙ c.if-not-valid.false in
    let lines = none-rests (rw (text-last (line_of c.args.state c.args.ticks) (c.loop-at.at + 1) 6 (omega arith)) at c.loop-at.invariant) in
    rw good (puts-append c.put_seconds.ensures.put lines)
