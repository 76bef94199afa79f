-- One more number is put after the bytes of the form before it.
use Rattle.std.proofs.Common.{arith}
use Rattle.console_text.proofs.Frames.{put-frame, frames-2, frames-3, puts-within}
use Rattle.console_text.proofs.Lengths.{padded-length}
use Rattle.console_form.proofs.put_form.Goals as goal

pub loop-n-preserved : goal.loop-n-preserved
loop-n-preserved c = (
  frames-3 c.loop-n.invariant.0 (put-frame c.put.ensures) (puts-within 10 (padded-length _ _ (omega arith)) c.put_padded.ensures)
      (omega arith),
  omega arith,
)

pub returns : goal.returns
returns c = frames-2 c.loop-n.invariant.0 (put-frame c.put-2.ensures) (omega arith)
