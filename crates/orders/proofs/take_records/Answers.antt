-- The run stops at the end, at a refused record or call, and with the allowance used up.
use Rattle.std.proofs.lemmas.Result.{err_from_is_err_and}
use Rattle.orders.proofs.Going.{run-stops, run-used-up}
use Rattle.orders.proofs.take_records.Goals as goal

pub returns-in_err-one : goal.returns-in_err-one
returns-in_err-one c =
    let p = err_from_is_err_and c.from_residual.result c.from_residual.ensures.1 in
    rw (p.1, p.2, c.loop-taken.invariant.0) (run-stops _ _ _ _ _ _ _ _ _ c.loop-taken.invariant.1 c.loop-taken-test.true _ c.in_err-one.ensures)

pub returns-in_default : goal.returns-in_default
returns-in_default c = rw c.loop-taken.invariant.0 (run-stops _ _ _ _ _ _ _ _ _ c.loop-taken.invariant.1 c.loop-taken-test.true _ (rw c.in_default.is at c.in_ok-one.ensures))

pub returns : goal.returns
returns c = rw c.loop-taken.invariant.0 (run-used-up _ _ _ _ _ _ _ _ _ c.loop-taken.invariant.1 c.loop-taken-test.false)
