-- What the bytes still to come make of the number stays the same.
use Rattle.std.proofs.Common.{◌≡◌, ◌≤◌, drop}
use Rattle.console_text.specs.Number.{limit, number_after, in_base}
use Rattle.console_text.proofs.number.in_base.Given as goal

abbrev pub invariant-loop-byte : goal.invariant-loop-byte
invariant-loop-byte l =
    (l.number ≤ limit) × (number_after l.base l.number (drop l.byte-index l.text) ≡ in_base l.base l.text)
