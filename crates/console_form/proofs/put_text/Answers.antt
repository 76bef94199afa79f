-- Bytes that are put have a frame.
use Rattle.console_text.proofs.Frames.{put-frame}
use Rattle.console_form.proofs.put_text.Goals as goal

pub returns : goal.returns
returns c = put-frame c.put.ensures
