-- The name, the seconds and their unit are put one after the other.
use Rattle.std.proofs.Common.{arith}
use Rattle.lent.proofs.Stores.{puts-append}
use Rattle.console_text.proofs.Frames.{put-frame, puts-within, frames-3}
use Rattle.console_text.proofs.Lengths.{nine-length}
use Rattle.console_form.proofs.put_seconds.Goals as goal

pub returns-clause-put : goal.returns-clause-put
returns-clause-put c = puts-append (puts-append c.put.ensures c.put_nine_decimals.ensures) c.put-2.ensures

pub returns-clause-frame : goal.returns-clause-frame
returns-clause-frame c =
    frames-3 (put-frame c.put.ensures) (puts-within 20 (nine-length _) c.put_nine_decimals.ensures) (put-frame c.put-2.ensures)
    (omega arith)
