-- Two digits are a byte.
use Rattle.std.proofs.Common.{sym, ◌∙◌}
use Rattle.console_hex.proofs.Pairs.{pairs-counted}
use Rattle.console_hex.proofs.count_bytes.Goals as goal

pub returns-then-are_pairs : goal.returns-then-are_pairs
returns-then-are_pairs c = pairs-counted _ (sym c.are_pairs.ensures ∙ c.if-are_pairs.true)
