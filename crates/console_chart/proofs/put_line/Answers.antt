-- The parts of a line are put one after the other.
use Rattle.std.proofs.Common.{◌≡◌, ◌+◌, ◌-◌, arith}
use Rattle.lent.proofs.Stores.{puts-append}
use Rattle.console_chart.specs.Chart.{line_of}
use Rattle.console_chart.proofs.put_line.Goals as goal

pub returns : goal.returns
unfolding line_of
returns c =
    let back : c.args.channel + 1 - 1 ≡ c.args.channel = omega arith in
    let now = puts-append (rw c.get.ensures.0 at c.put_decimal.ensures) (rw c.duty_after.ensures at c.put_duty.ensures) in
    let drawn = puts-append now (puts-append c.put.ensures c.put_columns.ensures) in
    rw back (puts-append (puts-append drawn (rw c.duty_after-2.ensures at c.put_duty-2.ensures)) c.put-2.ensures)
