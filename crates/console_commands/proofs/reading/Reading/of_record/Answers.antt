-- The row that the word after `encode` names decides.
use Rattle.std.proofs.Common.{◌∙◌, sym, arith}
use Rattle.console_commands.proofs.Readings.{refused, some-given, no_word, has, not-named-record, none_recorded, not_recorded, recorded, recorded-few}
use Rattle.console_commands.proofs.reading.Reading.of_record.Goals as goal

pub returns-in_err-word : goal.returns-in_err-word
returns-in_err-word c =
    refused _ _ _ c.in_err-word.ensures.value c.from_residual.ensures.1 (λ n. none_recorded _ c.args.place (no_word _ c.split_word.ensures n))

pub returns-in_err-found : goal.returns-in_err-found
returns-in_err-found c =
    refused _ _ _ c.in_err-found.ensures.value c.from_residual-in_err-found.ensures.1
    (λ n. not-named-record _ c.split_word.ensures _ c.in_ok-word.ensures.value _ c.find.ensures n c.args.place)

pub returns-in_err-kind : goal.returns-in_err-kind
returns-in_err-kind c =
    let h = has _ c.split_word.ensures _ c.in_ok-word.ensures.value _ c.find.ensures _ c.in_ok-found.ensures.value in
    refused _ _ _ c.in_err-kind.ensures.value c.from_residual-in_err-kind.ensures.1
    (λ n. not_recorded h c.args.place (sym c.kind_in.ensures ∙ n))

pub invariant_of-result : goal.invariant_of-result
invariant_of-result c =
    let h = has _ c.split_word.ensures _ c.in_ok-word.ensures.value _ c.find.ensures _ c.in_ok-found.ensures.value in
    let kind = sym c.kind_in.ensures ∙ some-given _ _ c.in_ok-kind.ensures.value in
    record { few = recorded-few h c.args.place kind c.widened.ensures; early = omega arith }

pub returns : goal.returns
returns c =
    let h = has _ c.split_word.ensures _ c.in_ok-word.ensures.value _ c.find.ensures _ c.in_ok-found.ensures.value in
    let kind = sym c.kind_in.ensures ∙ some-given _ _ c.in_ok-kind.ensures.value in
    sym (recorded h c.args.place kind c.widened.ensures)
