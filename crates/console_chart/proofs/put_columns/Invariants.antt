-- What the columns still to come make of the page stays the same.
use Rattle.std.proofs.Common.{◌-◌}
use Rattle.lent.proofs.Stores.{Rests}
use Rattle.console_chart.specs.Chart.{texts_from, column_of, columns_of}
use Rattle.console_chart.proofs.put_columns.Given as goal

abbrev pub invariant-loop-column : goal.invariant-loop-column
invariant-loop-column l =
    Rests (texts_from (column_of l.state l.channel l.ticks) l.column (65 - l.column)) l.page (columns_of l.state l.channel l.ticks) l.fn.page
