-- The spaces that are wanting are put, and then the digits.
use Rattle.std.proofs.Common.{◌≡◌, ℕ, ◌-◌, min, length, ap, sym, ◌∙◌, arith, length-drop}
use Rattle.std.proofs.lemmas.List.{take-replicate}
use lib.Seq.{take_all}
use Rattle.lent.proofs.Stores.{puts-append}
use Rattle.console_text.specs.Decimal.{decimal_of, padded}
use Rattle.console_text.proofs.decimal.put_padded.Goals as goal

pub returns : goal.returns
unfolding padded
returns c =
    let spelled = c.spell-from.ensures.1 in
    let long : length (decimal_of c.args.n) ≡ 10 - c.spell-from.result =
    ap length (sym spelled) ∙ length-drop c.spell-from.result c.spell-from.new.digits ∙ omega (arith, c.spell-from.array_long) in
    let gap : c.saturating_sub.result ≡ min c.args.places 10 - length (decimal_of c.args.n) = omega (arith, c.saturating_sub.ensures, c.min.ensures) in
    puts-append (rw (gap, take-replicate {X = ℕ} (min c.args.places 10 - length (decimal_of c.args.n)) 10 32 (omega arith)) at c.put.ensures)
    (rw (spelled, take_all (10 - c.spell-from.result) (decimal_of c.args.n) (omega arith)) at c.put-2.ensures)
