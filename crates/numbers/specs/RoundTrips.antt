-- What the two directions promise of each other: nothing is lost on the way.
use Rattle.std.specs.Prelude.{ℕ, ◌≡◌, true, List}
use Rattle.rules.specs.declared.State.{State}
use Rattle.rules.specs.Basics.{keep}
use Rattle.rules.specs.Valid.{valid_of}
use Rattle.numbers.specs.Numbers.{limits, Within, state_numbers, state_from}

-- 00h is kept in bits 7:1: bit 0, where the status bit reads, is clear
abbrev pub StatusApart : State → Type 0
StatusApart s = keep 7 1 s.registers.control ≡ s.registers.control

pub record RoundTrips : Type 0 where
  -- `load` of `dump`, of every state that code can hold. One whose numbers are within the limits has six channels
  pub state-back : (s : State) → Within limits (state_numbers s) → StatusApart s → state_from (state_numbers s) ≡ s
  -- a valid state is such a one, and so is every one that `load` makes
  pub valid-apart : (s : State) → valid_of s ≡ true → StatusApart s
  pub loaded-apart : (values : List ℕ) → StatusApart (state_from values)
  -- `dump` of `load`, of all numbers that a line can give
  pub numbers-back : (values : List ℕ) → Within limits values → state_numbers (state_from values) ≡ values
