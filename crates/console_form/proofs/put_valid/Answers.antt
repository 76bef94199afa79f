-- The line is one of two.
use Rattle.std.proofs.Common.{arith}
use Rattle.console_text.proofs.Frames.{put-frame, puts-within}
use Rattle.console_form.proofs.put_valid.Goals as goal

pub returns-then-valid-clause-put : goal.returns-then-valid-clause-put
returns-then-valid-clause-put c = rw c.if-valid.true c.put.ensures

pub returns-then-valid-clause-frame : goal.returns-then-valid-clause-frame
returns-then-valid-clause-frame c = puts-within 44 (omega arith) c.put.ensures

pub returns-else-valid-clause-put : goal.returns-else-valid-clause-put
returns-else-valid-clause-put c = rw c.if-valid.false c.put-else-valid.ensures

pub returns-else-valid-clause-frame : goal.returns-else-valid-clause-frame
returns-else-valid-clause-frame c = put-frame c.put-else-valid.ensures
