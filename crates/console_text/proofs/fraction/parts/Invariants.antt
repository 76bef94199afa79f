-- What the bits still to come make of the number stays the same.
use Rattle.std.proofs.Common.{◌≡◌, ◌+◌, ◌^◌, ◌≤◌}
use Rattle.console_text.specs.Fraction.{parts_after, parts_of}
use Rattle.console_text.proofs.fraction.parts.Given as goal

abbrev pub invariant-loop-bit : goal.invariant-loop-bit
invariant-loop-bit l = (l.n + 2 ^ l.bit ≤ 2 ^ 32) × (parts_after l.bit l.n l.x ≡ parts_of l.x)
