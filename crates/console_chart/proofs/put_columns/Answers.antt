-- One more column is put.
use Rattle.std.proofs.Common.{arith}
use Rattle.lent.proofs.Stores.{part-puts, none-rests}
use Rattle.console_chart.specs.Chart.{column_of}
use Rattle.console_chart.proofs.Texts.{text-next, text-last}
use Rattle.console_chart.proofs.put_columns.Goals as goal

pub loop-column-preserved : goal.loop-column-preserved
loop-column-preserved c =
    let next = text-next (column_of c.args.state c.args.channel c.args.ticks) c.loop-column.column 64 (omega arith) in
    part-puts _ _ (rw next at c.loop-column.invariant) (rw (c.duty_after.ensures, c.ticks_at.ensures) at c.put_block.ensures)

pub returns : goal.returns
returns c =
    none-rests (rw (text-last (column_of c.args.state c.args.channel c.args.ticks) c.loop-column.column 64 (omega arith)) at c.loop-column.invariant)
