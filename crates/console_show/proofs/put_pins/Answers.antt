-- The three texts are put one after the other.
use Rattle.std.proofs.Common.{arith}
use Rattle.console_text.proofs.Frames.{frames-3}
use Rattle.console_show.proofs.put_pins.Goals as goal

pub returns : goal.returns
returns c = frames-3 c.put_either.ensures c.put_either-2.ensures c.put_fan_fail.ensures (omega arith)
