-- What the lines still to come make of the page stays the same.
use Rattle.std.proofs.Common.{◌+◌, ◌-◌}
use Rattle.lent.proofs.Stores.{Rests}
use Rattle.console_chart.specs.Chart.{texts_from, line_of}
use Rattle.console_chart.proofs.put_chart.Given as goal

abbrev pub invariant-loop-at : goal.invariant-loop-at
invariant-loop-at l =
    Rests (texts_from (line_of l.state l.ticks) (l.at + 1) (7 - (l.at + 1))) l.page (texts_from (line_of l.state l.ticks) 1 6) l.initial.page
