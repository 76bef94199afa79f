-- The first row that has the word as its name is the one that the word names.
use Rattle.std.proofs.Common.{refl, sym, ◌∙◌}
use Rattle.console_table.proofs.Rows.{found-none, found-some}
use Rattle.console_table.proofs.find.Goals as goal

pub returns-in_err-place : goal.returns-in_err-place
returns-in_err-place c =
    rw c.from_residual.ensures (found-none c.args.word.now c.table-rows.result.now c.table-rows.ensures (sym c.place_of.ensures ∙ c.in_err-place.was))

pub returns : goal.returns
returns c =
    found-some c.args.word.now c.table-rows.result.now c.table-rows.ensures _ (sym c.place_of.ensures ∙ c.in_ok-place.was) _ _ refl refl
