-- What a byte makes of a record: more is to come, it is whole, or it is refused.
use Rattle.std.specs.Prelude.{ℕ}
use Rattle.rules.specs.declared.Call.{Call}
use Rattle.strings.specs.Partial.{Partial}

pub data Step : Type 0 where
  More : Partial → Step
  Whole : Call → Step
  Refused : ℕ → Step
