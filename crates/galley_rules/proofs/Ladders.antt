-- From what the tests of a call told to its equation, and back: the ladders of refusals.
use Prim.Native.Nat.{ℕ, ◌-◌, ◌≤◌, ◌<◌}
use mathlib.Core.Path.{◌≡◌, refl}
use mathlib.Core.Logic.{◌⊎◌, inl, inr}
use mathlib.Core.Bool.{Bool, true, false, not}
use mathlib.Core.List.{List, []}
use native.Mathlib.Omega.{arith}
use lib.Dec.{eqb, ltb}
use lib.IntN.{ℤ}
use lib.ListN.{length, take, drop}
use borrow.Author.Tests.{eq-eqb, eqb-true, ltb-false, lt-ltb, le-ltb}
use Rattle.std.specs.Prelude.{if◌then◌else◌}
use Rattle.rules.specs.Calls.{accepted, state_not_valid}
use Rattle.rules.specs.Valid.{valid_of}
use Rattle.rules.specs.Make.{after_each}
use Rattle.rules.proofs.Tests.{by-test, and_left, and_right}
use Rattle.galley_rules.specs.Types.{State, Galley}
use Rattle.galley_rules.specs.Temperature.{in_range}
use Rattle.galley_rules.specs.Galley.{temperature_out_of_range, valid_galley}
use Rattle.galley_rules.specs.Table.{no_table, are_tables, in_force}
use Rattle.galley_rules.specs.Sample.{sample_refusal, sample_calls, sample_of}
use Rattle.galley_rules.specs.Span.{rows_outside, span_refusal, span_rows}

-- both tables have 48 bytes
pub tables-long : (normal quiet : List ℕ) → are_tables normal quiet ≡ true → (length normal ≡ 48) × (length quiet ≡ 48)
unfolding are_tables
tables-long normal quiet e =
    (eqb-true _ 48 (and_left (eqb (length normal) 48) _ e), eqb-true _ 48 (and_right (eqb (length normal) 48) _ e))

-- ---- a sample

-- no refusal: every test has passed
all-passed : (first second third fourth : Bool) →
    (if not first then state_not_valid
    else if not second then state_not_valid
    else if not third then no_table
    else if not fourth then temperature_out_of_range
    else accepted) ≡ accepted →
    (first ≡ true) × (second ≡ true) × (third ≡ true) × (fourth ≡ true)
all-passed true true true true e = (refl, refl, refl, refl)
all-passed true true true false e = absurd (omega (arith, e))
all-passed true true false fourth e = absurd (omega (arith, e))
all-passed true false third fourth e = absurd (omega (arith, e))
all-passed false second third fourth e = absurd (omega (arith, e))

module _ (g : Galley) (s : State) (t : ℤ) (normal quiet : List ℕ) where
  pub sample-facts : sample_refusal g s t normal quiet ≡ accepted →
      (valid_galley g ≡ true) × (valid_of s ≡ true) × (are_tables normal quiet ≡ true) × (in_range t ≡ true)
  unfolding sample_refusal
  sample-facts e = all-passed (valid_galley g) (valid_of s) (are_tables normal quiet) (in_range t) e

  pub accepted-state : sample_refusal g s t normal quiet ≡ accepted → (sample_of g s t normal quiet).state ≡ after_each s (sample_calls g s t normal quiet)
  unfolding sample_of
  accepted-state fine = rw (eq-eqb _ _ fine) refl

-- ---- a span of rows

-- no refusal: both tables have 48 bytes, and the span lies in them
span-passed : (first second : Bool) (a b : ℕ) →
    (if not first then state_not_valid
    else if not second then no_table
    else if ltb b a then rows_outside
    else if ltb 48 b then rows_outside
    else accepted) ≡ accepted →
    (second ≡ true) × (a ≤ b) × (b ≤ 48)
span-passed true true a b e =
    by-test (ltb b a) (λ bad. absurd (omega (arith, rw bad at e)))
    (λ low. by-test (ltb 48 b) (λ bad. absurd (omega (arith, rw (low, bad) at e)))
    (λ high. (refl, ltb-false b a low, ltb-false 48 b high)))
span-passed true false a b e = absurd (omega (arith, e))
span-passed false second a b e = absurd (omega (arith, e))

module _ (g : Galley) (a b : ℕ) (normal quiet : List ℕ) where
  pub span-facts : span_refusal g a b normal quiet ≡ accepted → (length normal ≡ 48) × (length quiet ≡ 48) × (a ≤ b) × (b ≤ 48)
  unfolding span_refusal
  span-facts e =
      let facts = span-passed (valid_galley g) (are_tables normal quiet) a b e in
      let long = tables-long normal quiet facts.0 in
      (long.0, long.1, facts.1, facts.2)

  -- every test has passed
  pub span-inside : valid_galley g ≡ true → are_tables normal quiet ≡ true → a ≤ b → b ≤ 48 →
      (span_refusal g a b normal quiet ≡ accepted) × (take (b - a) (drop a (in_force g.quiet normal quiet)) ≡ span_rows g a b normal quiet)
  unfolding span_rows span_refusal
  span-inside valid whole low high = rw (valid, whole, le-ltb b a low, le-ltb 48 b high) (refl, refl)

  -- the last two have not
  pub span-outside : valid_galley g ≡ true → are_tables normal quiet ≡ true → (b < a) ⊎ (48 < b) →
      (rows_outside ≡ span_refusal g a b normal quiet) × (span_rows g a b normal quiet ≡ [])
  unfolding span_rows span_refusal
  span-outside valid whole (inl before) = rw (valid, whole, lt-ltb b a before) (refl, refl)
  span-outside valid whole (inr past) =
      rw (valid, whole)
      (by-test (ltb b a) (λ before. rw before (refl, refl)) (λ other. rw (other, lt-ltb 48 b past) (refl, refl)))

  pub quiet-span : span_refusal g a b normal quiet ≡ accepted → g.quiet ≡ true → take (b - a) (drop a quiet) ≡ span_rows g a b normal quiet
  unfolding span_rows
  quiet-span fine on = rw (eq-eqb _ accepted fine, on) refl

  pub normal-span : span_refusal g a b normal quiet ≡ accepted → g.quiet ≡ false → take (b - a) (drop a normal) ≡ span_rows g a b normal quiet
  unfolding span_rows
  normal-span fine off = rw (eq-eqb _ accepted fine, off) refl

-- the table in force has a byte a row
pub in-force-long : (flag : Bool) (normal quiet : List ℕ) → are_tables normal quiet ≡ true → length (in_force flag normal quiet) ≡ 48
in-force-long true normal quiet e = (tables-long normal quiet e).1
in-force-long false normal quiet e = (tables-long normal quiet e).0
