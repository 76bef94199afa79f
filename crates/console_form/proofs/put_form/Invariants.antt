-- What was put of the form and of the numbers so far has a frame.
use Rattle.std.proofs.Common.{◌+◌, ◌-◌, ◌*◌, ◌≤◌, length}
use Rattle.console_text.specs.Frame.{Frame}
use Rattle.console_form.proofs.put_form.Given as goal

abbrev pub invariant-loop-n : goal.invariant-loop-n
invariant-loop-n l =
    Frame (length l.form - length l.rest + 10 * l.n-index) l.fn.page l.page × (length l.rest ≤ length l.form)
