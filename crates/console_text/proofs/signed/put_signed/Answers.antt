-- A sign is put where the number is below 0, and then how far it is from 0.
use Rattle.lent.proofs.Stores.{puts-append}
use Rattle.console_text.proofs.Integers.{sign-put}
use Rattle.console_text.proofs.signed.put_signed.Goals as goal

pub returns : goal.returns
returns c =
    rw (← sign-put c.args.n c.ranges.n, ← c.unsigned_abs.ensures.value) (puts-append c.put_sign.ensures c.put_decimal.ensures)
