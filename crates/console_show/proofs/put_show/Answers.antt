-- The five texts are put one after the other.
use Rattle.std.proofs.Common.{arith}
use Rattle.console_text.proofs.Frames.{frame_then, frames-4}
use Rattle.console_show.proofs.put_show.Goals as goal

pub returns : goal.returns
returns c =
    frames-4 c.put_timer.ensures c.put_pins.ensures c.put_modification.ensures
    (frame_then c.put_starts.ensures c.put_channels.ensures) (omega arith)
