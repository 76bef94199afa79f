-- The name, the degrees and their unit are put one after the other.
use Rattle.std.proofs.Common.{arith}
use Rattle.console_text.proofs.Frames.{puts-within, frames-3}
use Rattle.console_text.proofs.Lengths.{signed-eighths-length}
use Rattle.console_galley.proofs.show.put_temperature.Goals as goal

pub returns : goal.returns
returns c =
    frames-3 c.put_text.ensures (puts-within _ (signed-eighths-length _) c.put_signed_eighths.ensures) c.put_text-2.ensures (omega arith)
