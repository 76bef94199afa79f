-- Each way out of `take` is a law of one record of the string.
use Rattle.std.proofs.lemmas.Result.{err_from_is_err_and}
use Rattle.orders.proofs.Going.{string-over, record-broken, call-denied, call-made}
use Rattle.orders.proofs.take.Goals as goal

pub returns-in_err-found : goal.returns-in_err-found
returns-in_err-found c =
    let p = err_from_is_err_and c.from_residual.result c.from_residual.ensures.1 in
    rw (p.1, p.2) (record-broken _ _ _ _ c.in_err-found.ensures)

pub returns-in_default : goal.returns-in_default
returns-in_default c = string-over _ _ _ (rw c.in_default.is at c.in_ok-found.ensures)

pub returns-in_err-made : goal.returns-in_err-made
returns-in_err-made c =
    let p = err_from_is_err_and c.from_residual-in_err-made.result c.from_residual-in_err-made.ensures.1 in
    rw (p.1, p.2) (call-denied _ _ _ _ _ (rw c.in-Some.is at c.in_ok-found.ensures) _ c.in_err-made.ensures.answered)

pub returns : goal.returns
returns c = call-made _ _ _ _ _ (rw c.in-Some.is at c.in_ok-found.ensures) _ c.in_ok-made.ensures.answered c.in_ok-made.ensures.byte
