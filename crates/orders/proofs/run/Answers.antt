-- A run that is refused before its string is looked at does nothing; any other is the run over its records.
use Rattle.std.proofs.Common.{sym, ◌∙◌}
use Rattle.strings.proofs.OneByOne.{runs, runs-not-valid, runs-too-short}
use Rattle.orders.proofs.run.Goals.{then-not-valid, else-not-valid+then-answers-string, else-not-valid+else-answers-string}
use Rattle.orders.proofs.run.Goals as goal

pub returns : goal.returns
returns c =
    elim c.if-not-valid.branch [
      | then-not-valid w ↦ rw (w.run2-is, w.run-is, w.answers-is, w.into.ensures, c.begun-run.ensures) (sym (runs-not-valid _ _ _ _ (sym c.valid.ensures ∙ w.if-not-valid.true)))
      | else-not-valid+then-answers-string w ↦
          rw (w.run2-is, w.run-is, w.answers-is, c.begun-run.ensures) (sym (runs-too-short _ _ _ _ (sym c.valid.ensures ∙ w.if-not-valid.false) w.if-answers-string.true))
      | else-not-valid+else-answers-string w ↦
          rw (w.run2-is, w.run-is, w.answers-is)
          (rw c.begun-run.ensures at w.take_records.ensures ∙ sym (runs _ _ _ _ (sym c.valid.ensures ∙ w.if-not-valid.false) w.if-answers-string.false))
    ]
