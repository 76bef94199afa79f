-- The library's digit is that of the definition.
use Rattle.console_text.proofs.Digits.{digit-told}
use Rattle.console_text.proofs.number.digit.Goals as goal

pub returns-clause-value : goal.returns-clause-value
returns-clause-value c = digit-told c.args.byte c.to_digit.result (rw c.from.ensures at c.to_digit.ensures.value)
