-- What stands at an index of a string: a record, as its call, and the index after it; the string's end; or a refusal.
use Rattle.std.specs.Prelude.{ℕ}
use Rattle.rules.specs.declared.Call.{Call}

pub data Found : Type 0 where
  Record : Call → ℕ → Found
  End : Found
  Refused : ℕ → Found
