-- `0 too fast` is a line of its own.
use Rattle.console_answers.specs.Texts.{speed_line}
use Rattle.console_answers.proofs.speeds.put_answer.Goals as goal

pub returns-in-Ok-TooFast : goal.returns-in-Ok-TooFast
unfolding speed_line
returns-in-Ok-TooFast c =
    let known = rw c.in-Ok-TooFast.is at c.in-Ok-TooFast.field-0-is in
    rw (c.in-Ok-TooFast.is, known) c.put-in-Ok-TooFast.ensures
