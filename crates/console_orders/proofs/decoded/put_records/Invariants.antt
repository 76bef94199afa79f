-- So far there are at most 21 bytes for each byte that was read.
use Rattle.std.proofs.Common.{◌*◌, ◌-◌, ◌≤◌, length}
use Rattle.console_text.specs.Frame.{Frame}
use Rattle.console_orders.proofs.decoded.put_records.Given as goal

abbrev pub invariant-loop-page : goal.invariant-loop-page
invariant-loop-page l = Frame (21 * l.index) l.fn.page l.page × (l.index ≤ length l.string)

abbrev pub decreases-loop-page : goal.decreases-loop-page
decreases-loop-page l = length l.string - l.index
