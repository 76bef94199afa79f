-- The digits still to come and those put are all the digits.
use Rattle.std.proofs.Common.{◌≡◌, ◌++◌, drop, length}
use Rattle.console_text.specs.Decimal.{digits_within, digits_of}
use Rattle.console_text.proofs.decimal.spell.Given as goal

abbrev pub invariant-loop-place : goal.invariant-loop-place
invariant-loop-place l =
    (length l.digits ≡ 10) × (digits_within l.place l.owed l.rest ++ drop l.place l.digits ≡ digits_of l.least l.n)
