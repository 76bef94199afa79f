-- Each step of the loop, and each way out of it, is one law of what has been read up to its index.
use Rattle.std.proofs.lemmas.Result.{err_from_is_err_and}
use Rattle.records.proofs.Index.{at-end, begins, cut_off, goes_on, whole-at, refused-at}
use Rattle.records.proofs.record.record_at.Goals as goal

pub returns-then-string-at : goal.returns-then-string-at
returns-then-string-at c = at-end _ _ c.if-string-at.true

pub loop-i-init : goal.loop-i-init
loop-i-init c = begins _ _ _ c.begun-partial.ensures c.if-string-at.false

pub loop-i-preserved : goal.loop-i-preserved
loop-i-preserved c = goes_on _ _ _ _ c.loop-i.invariant c.loop-i-test.true _ (rw c.in-More.is at c.in_ok-more.ensures)

pub returns-in-Whole : goal.returns-in-Whole
returns-in-Whole c = whole-at _ _ _ _ c.loop-i.invariant c.loop-i-test.true _ (rw c.in-Whole.is at c.in_ok-more.ensures)

pub returns-in_err-more : goal.returns-in_err-more
returns-in_err-more c =
    let p = err_from_is_err_and c.from_residual.result c.from_residual.ensures.1 in
    rw (p.1, p.2) (refused-at _ _ _ _ c.loop-i.invariant c.loop-i-test.true _ c.in_err-more.ensures)

pub returns : goal.returns
returns c = cut_off _ _ _ _ c.loop-i.invariant c.if-string-at.false c.loop-i-test.false
