-- Three texts, one after the other, are no longer than the sum of their lengths.
use Rattle.std.proofs.Common.{arith}
use Rattle.console_text.proofs.Frames.{puts-within, frames-3}
use Rattle.console_table.proofs.Rows.{usage-short}
use Rattle.console.proofs.errors.put_word_count.Goals as goal

pub returns : goal.returns
returns c = frames-3 c.put_form.ensures (puts-within _ (usage-short _) c.put_usage.ensures) c.put_text.ensures (omega arith)
