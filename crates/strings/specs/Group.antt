-- What a byte makes of a number: what its groups are worth so far, with more to come or as the last; or a refusal.
use Rattle.std.specs.Prelude.{ℕ}

pub data Group : Type 0 where
  More : ℕ → Group
  Last : ℕ → Group
  Refused : ℕ → Group
