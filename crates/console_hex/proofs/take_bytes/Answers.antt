-- One more pair is put as a byte.
use Rattle.std.proofs.Common.{sym, ◌∙◌, arith}
use Rattle.lent.proofs.Stores.{part-puts, none-rests, puts-nothing}
use Rattle.console_hex.proofs.Pairs.{nothing-spelled, chunks-spelled, pair-next, pairs-end}
use Rattle.console_hex.proofs.take_bytes.Goals as goal

pub returns-then-not-are_pairs : goal.returns-then-not-are_pairs
returns-then-not-are_pairs c =
    rw (nothing-spelled c.args.word.now (sym c.are_pairs.ensures ∙ c.if-not-are_pairs.true)) (puts-nothing c.args.page.now)

pub loop-high-preserved : goal.loop-high-preserved
loop-high-preserved c =
    part-puts _ _ (rw (pair-next c.as_chunks.result.0.now c.loop-high.high-index (omega arith)) at c.loop-high.invariant)
    (rw (c.value.ensures.value, c.value-in-loop-high.ensures.value) at c.put.ensures)

pub returns : goal.returns
returns c =
    rw (chunks-spelled c.args.word.now (sym c.are_pairs.ensures ∙ c.if-not-are_pairs.false), ← c.as_chunks.ensures.front)
    (none-rests (rw (pairs-end c.as_chunks.result.0.now c.loop-high.high-index (omega arith)) at c.loop-high.invariant))
