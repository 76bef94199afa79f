-- The four texts are put one after the other.
use Rattle.std.proofs.Common.{arith}
use Rattle.console_text.proofs.Frames.{frames-4}
use Rattle.console_show.proofs.put_timer.Goals as goal

pub returns : goal.returns
returns c =
    frames-4 c.put_valid.ensures.frame c.put_seconds.ensures.frame c.put_watchdog.ensures c.put_either.ensures (omega arith)
