-- The whole part, the point and the decimals are put one after the other.
use Rattle.lent.proofs.Stores.{puts-append}
use Rattle.console_text.proofs.fraction.put_point.Goals as goal

pub returns : goal.returns
returns c = puts-append c.put_decimal.ensures (puts-append c.put.ensures c.put_digits.ensures)
