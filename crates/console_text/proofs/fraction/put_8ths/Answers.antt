-- A sign is put where the f64 is below 0, and then its eighths.
use Rattle.std.proofs.Common.{◌≡◌, false, pos}
use Rattle.std.specs.Prelude.{if◌then◌else◌}
use lib.Ieee.{fin, neg, lt}
use Rattle.lent.proofs.Stores.{puts-append}
use Rattle.console_text.proofs.Exact.{sign-put}
use Rattle.console_text.proofs.fraction.put_8ths.Goals as goal
use Rattle.console_text.proofs.fraction.put_8ths.Goals.{then-below, else-below}

pub returns : goal.returns
unfolding lib.Ieee.of_bits
returns c =
    let distance : c.if-below.parts ≡ (if lt c.args.x (fin false 0 (pos 0)) then neg c.args.x else c.args.x) =
    elim c.if-below.branch [ then-below w ↦ rw (w.if-below.true, w.parts-is) | else-below w ↦ rw (w.if-below.false, w.parts-is) ] in
    rw (← sign-put c.args.x c.if-below.parts distance, ← c.parts.ensures) (puts-append c.put_sign.ensures c.put_eighths.ensures)
