-- The four texts are put one after the other.
use Rattle.std.proofs.Common.{arith}
use Rattle.console_text.proofs.Frames.{frames-4}
use Rattle.console_show.proofs.put_channel.Goals as goal

pub returns : goal.returns
returns c = frames-4 c.put_duties.ensures c.put_speed.ensures c.put_queue.ensures c.put_spin_up.ensures (omega arith)
