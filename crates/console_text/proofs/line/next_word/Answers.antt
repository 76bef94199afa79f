-- The first word stands after the blanks.
use Rattle.std.proofs.Common.{◌+◌, ap}
use Rattle.console_text.proofs.Runs.{finds-next}
use Rattle.console_text.proofs.line.next_word.Goals as goal

pub returns : goal.returns
returns c =
    rw c.then_some.ensures
    (finds-next c.args.line.now c.args.from _ (rw (← c.after.ensures) (ap (λ n. c.args.from + n) c.run.ensures.counted)) _
    (rw (← c.after-2.ensures) (ap (λ n. c.args.from + c.run.result + n) c.run-2.ensures.counted)))
