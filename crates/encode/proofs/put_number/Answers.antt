-- A group that is put is the first of those still to come; the last is all of them.
use Rattle.std.proofs.Common.{[], append-nil}
use Rattle.lent.proofs.Stores.{part-puts, none-rests}
use Rattle.encode.proofs.Groups.{group-first, last-group}
use Rattle.encode.proofs.put_number.Goals as goal

pub loop-rest-preserved : goal.loop-rest-preserved
loop-rest-preserved c = part-puts _ _ (rw (group-first _ c.loop-rest.auto.rest-fits.fits c.loop-rest-test.true) at c.loop-rest.invariant) c.put.ensures

pub returns : goal.returns
returns c = none-rests (part-puts _ [] (rw append-nil (rw (last-group _ c.loop-rest-test.false) at c.loop-rest.invariant)) c.put-2.ensures)
