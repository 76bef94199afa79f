-- The line is answered with its own values and bytes.
use Rattle.console.proofs.dispatch.answer.Goals as goal

pub returns-in-Ok-clause-answers_line : goal.returns-in-Ok-clause-answers_line
returns-in-Ok-clause-answers_line c =
    rw (← c.parse_line.ensures.value, c.in-Ok.is)
    (rw (c.parse_line.ensures.values_after, c.parse_line.ensures.bytes_after, c.default-arguments.ensures.0, c.default-arguments.ensures.1) at c.answer_parsed.ensures.answers_as)
