-- From what the test of a state told to the equation of a call: refusal 1, and what comes after it.
use mathlib.Core.Path.{◌≡◌}
use mathlib.Core.Bool.{true, false}
use Rattle.rules.specs.Calls.{state_not_valid, answer}
use Rattle.rules.specs.Valid.{valid_of, if_valid}
use Rattle.laws.proofs.Types.{State, Answer}

module _ (s : State) (given : Answer) where
  pub not_valid : (r : Answer) → valid_of s ≡ false → r ≡ answer state_not_valid s → r ≡ if_valid s given
  not_valid r bad e = rw bad e

  pub is-valid : (r : Answer) → valid_of s ≡ true → r ≡ given → r ≡ if_valid s given
  is-valid r good e = rw good e
