-- What the group makes of a record is what the byte makes of it.
use Rattle.std.proofs.Common.{◌∙◌}
use Rattle.std.proofs.lemmas.Result.{err_from_is_err_and}
use Rattle.records.proofs.Numbers.{step_is, more-half}
use Rattle.records.proofs.record.take_byte.Goals as goal

pub returns-in_err-value : goal.returns-in_err-value
returns-in_err-value c =
    let p = err_from_is_err_and c.from_residual.result c.from_residual.ensures.1 in rw (p.1, p.2) (step_is _ _ _ c.in_err-value.ensures)

pub invariant_of-result : goal.invariant_of-result
invariant_of-result c = more-half (_) _ _ c.partial.invariant (rw (c.in-More.is, ← c.partial.view_is) at c.in_ok-value.ensures)

pub returns-in-More : goal.returns-in-More
returns-in-More c = rw (← c.partial.view_is) (step_is _ _ _ (rw (c.in-More.is, ← c.partial.view_is) at c.in_ok-value.ensures))

pub returns-in-Last : goal.returns-in-Last
returns-in-Last c = c.take_number.ensures ∙ rw (← c.partial.view_is) (step_is _ _ _ (rw (c.in-Last.is, ← c.partial.view_is) at c.in_ok-value.ensures))
