-- The part of the table in force, or the refusal of a span outside it.
use Rattle.std.proofs.Common.{sym, ◌∙◌}
use Rattle.galley.proofs.Cut.{cut-out}
use Rattle.galley.proofs.spans.rows.Goals as goal

pub returns : goal.returns
returns c =
    let told = cut-out c.args.galley c.args.first c.args.end c.args.normal.now c.args.quiet.now
    (sym c.valid.ensures ∙ c.if-not-valid.false) (sym c.are_whole.ensures ∙ c.if-not-are_whole.false)
    c.get.result (rw c.in_force.ensures at c.get.ensures.lookup) in
    rw c.ok_or.ensures.value (record { number = told.number; rows = told.rows })
