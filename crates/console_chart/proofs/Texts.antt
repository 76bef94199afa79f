-- The texts of a chart: what each is, how one follows the other, and how long they are together.
use Prim.Native.Nat.{ℕ, zero, suc, ◌+◌, ◌-◌, ◌*◌, ◌≤◌, ◌<◌}
use mathlib.Core.Path.{◌≡◌, refl}
use mathlib.Core.List.{List, [], ◌++◌}
use native.Mathlib.Omega.{arith}
use lib.ListN.{length, length-append}
use lib.Dec.{eqb}
use Rattle.rules.specs.declared.State.{State}
use Rattle.rules.specs.declared.refusal.Refusal.{Refusal}
use Rattle.rules.specs.Calls.{answer_by}
use Rattle.std.specs.Prelude.{Result, Ok, Err}
use Rattle.std.specs.Result.{result_unwrap_or}
use Rattle.rules.specs.Valid.{valid_of}
use Rattle.rules.proofs.Tests.{by-test}
use Rattle.console_text.proofs.Lengths.{digits-length, nine-length, padded-length}
use Rattle.console_chart.specs.Chart.{duty_after, texts_from, block_of, column_of, columns_of, time_line, line_of, chart_of, chart_most}

-- the state after ticks, which is as given where they are refused
pub state_told : (s : State) (passed : Result State Refusal) → (answer_by s passed).state ≡ result_unwrap_or passed s
state_told s (Ok next) = refl
state_told s (Err refusal) = refl

block-length : (duty : ℕ) → length (block_of duty) ≤ 3
unfolding block_of
block-length duty = by-test (eqb duty 0) (λ t. rw t (omega arith)) (λ f. rw f (omega arith))

-- ---- texts one after the other, up to a last one
module _ (text : ℕ → List ℕ) (n last : ℕ) where
  pub text-next : n ≤ last → texts_from text n (last + 1 - n) ≡ text n ++ texts_from text (n + 1) (last + 1 - (n + 1))
  unfolding texts_from
  text-next h = let e : last + 1 - n ≡ suc (last + 1 - (n + 1)) = omega arith in rw e

  pub text-last : last < n → texts_from text n (last + 1 - n) ≡ []
  unfolding texts_from
  text-last h = let e : last + 1 - n ≡ 0 = omega arith in rw e

texts-length : (text : ℕ → List ℕ) (most : ℕ) → ((n : ℕ) → length (text n) ≤ most) → (n more : ℕ) →
    length (texts_from text n more) ≤ more * most
unfolding texts_from
texts-length text most h n zero = omega arith
texts-length text most h n (suc more) = rw length-append (omega (arith, h n, texts-length text most h (n + 1) more))

-- ---- how long a chart is
module _ (s : State) (ticks : ℕ) where
  columns-length : (i : ℕ) → length (columns_of s i ticks) ≤ 192
  columns-length i = texts-length (column_of s i ticks) 3 (λ column. block-length _) 1 64

  line-length : (number : ℕ) → length (line_of s ticks number) ≤ 226
  unfolding line_of
  line-length number =
      let i = number - 1 in
      simp length-append
      (omega (arith, digits-length 1 number, padded-length 3 (duty_after s i 0) (omega arith), columns-length i, padded-length 3 (duty_after s i ticks) (omega arith)))

  pub chart_length : length (chart_of s ticks) ≤ chart_most
  unfolding chart_of time_line
  chart_length =
      by-test (valid_of s)
      (λ t. rw t (simp length-append (omega (arith, nine-length ticks, texts-length (line_of s ticks) 226 line-length 1 6))))
      (λ f. rw f (omega arith))
