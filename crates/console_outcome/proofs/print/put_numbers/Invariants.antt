-- What the numbers still to come make of the page stays the same.
use Rattle.std.proofs.Common.{false, nat_lt, drop}
use Rattle.lent.proofs.Stores.{Rests}
use Rattle.console_outcome.specs.Outcome.{numbers_text}
use Rattle.console_outcome.proofs.print.put_numbers.Given as goal

abbrev pub invariant-loop-i : goal.invariant-loop-i
invariant-loop-i l =
    Rests (numbers_text l.signed (nat_lt 0 l.i) (drop l.i l.numbers)) l.page (numbers_text l.signed false l.numbers) l.fn.page
