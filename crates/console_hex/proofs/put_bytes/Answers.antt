-- No bytes are put as a dash, and others as pairs.
use Rattle.std.proofs.Common.{sym, ◌∙◌}
use Rattle.console_hex.proofs.Pairs.{no_bytes, some_bytes}
use Rattle.console_hex.proofs.put_bytes.Goals as goal

pub returns-then-is_empty : goal.returns-then-is_empty
returns-then-is_empty c = rw (no_bytes _ (sym c.is_empty.ensures ∙ c.if-is_empty.true)) c.put.ensures

pub returns-else-is_empty : goal.returns-else-is_empty
returns-else-is_empty c = rw (some_bytes _ (sym c.is_empty.ensures ∙ c.if-is_empty.false)) c.put_pairs.ensures
