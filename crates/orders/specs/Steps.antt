-- What one record more does to a run.
use Rattle.std.specs.Prelude.{ℕ, suc, ◌≤◌, ◌<◌, ◌≡◌, List, [], length, drop, Option, None, Some, Result, Ok, Err}
use Rattle.std.specs.Option.{option_to_list}
use Rattle.rules.specs.Calls.{accepted}
use Rattle.strings.specs.Types.{State}
use Rattle.strings.specs.declared.refusal.RunRefusal.{RunRefusal}
use Rattle.strings.specs.Refusals.{run_number}
use Rattle.strings.specs.Run.{ran, after, run_on}
use Rattle.orders.specs.declared.Taken.{Taken}

-- a record that is taken: a run that stands before it is one that stands behind it, after the answer
pub record TakesOne (one : Taken) (s : State) (string : List ℕ) (at : ℕ) : Type 0 where
  pub further : at < one.next
  pub within : one.next ≤ length string
  pub goes_on : (n : ℕ) → run_on (suc n) s (drop at string) ≡ after 1 (option_to_list one.made.byte) (run_on n one.made.state (drop one.next string))

abbrev pub Stops : ℕ → State → List ℕ → Type 0
Stops refusal s string = (n : ℕ) → run_on (suc n) s string ≡ ran refusal 0 [] s

-- what making the next call gives: the record is taken, the string has ended, or the run stops before it
abbrev pub Takes : Result (Option Taken) RunRefusal → State → List ℕ → ℕ → Type 0
Takes (Ok (Some one)) s string at = TakesOne one s string at
Takes (Ok None) s string at = Stops accepted s (drop at string)
Takes (Err refusal) s string at = Stops (run_number refusal) s (drop at string)
