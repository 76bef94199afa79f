-- The row that the first word names decides.
use Rattle.std.proofs.Common.{sym, arith}
use Rattle.console_commands.proofs.Readings.{refused, no_word, has, not-named, none-read, read, read-record}
use Rattle.console_commands.proofs.reading.Reading.of_line.Goals as goal

pub returns-in_err-word : goal.returns-in_err-word
returns-in_err-word c =
    refused _ _ _ c.in_err-word.ensures.value c.from_residual.ensures.1 (λ n. none-read _ (no_word _ c.split_word.ensures n))

pub returns-in_err-found : goal.returns-in_err-found
returns-in_err-found c =
    refused _ _ _ c.in_err-found.ensures.value c.from_residual-in_err-found.ensures.1
    (λ n. not-named _ c.split_word.ensures _ c.in_ok-word.ensures.value _ c.find.ensures n)

pub returns-in-Record : goal.returns-in-Record
returns-in-Record c =
    let h = has _ c.split_word.ensures _ c.in_ok-word.ensures.value _ c.find.ensures _ c.in_ok-found.ensures.value in
    rw (read-record h c.in-Record.is) c.of_record.ensures

pub invariant_of-result : goal.invariant_of-result
invariant_of-result c =
    let h = has _ c.split_word.ensures _ c.in_ok-word.ensures.value _ c.find.ensures _ c.in_ok-found.ensures.value in
    record { few = h.few; early = omega arith }

pub returns-in-For : goal.returns-in-For
returns-in-For c =
    let h = has _ c.split_word.ensures _ c.in_ok-word.ensures.value _ c.find.ensures _ c.in_ok-found.ensures.value in
    sym (read h c.in-For.is)
