-- The table in force is the quiet one exactly while the flag is set, whatever the two tables are.
use Prim.Native.Nat.{ℕ}
use mathlib.Core.Path.{◌≡◌, refl, sym}
use mathlib.Core.Bool.{true, false}
use mathlib.Core.List.{List}
use lib.IntN.{ℤ, pos}
use lib.ListN.{replicate}
use Rattle.rules.specs.Calls.{accepted}
use Rattle.galley_rules.specs.Types.{State, Galley}
use Rattle.galley_rules.specs.Temperature.{in_range}
use Rattle.galley_rules.specs.Galley.{valid_galley, fresh_of}
use Rattle.galley_rules.specs.Table.{are_tables}
use Rattle.galley_rules.specs.Span.{span_refusal}
use Rattle.galley_rules.specs.Demands.{InForce}
use Rattle.galley_rules.proofs.Ladders.{quiet-span, normal-span}

pub in-force : (g : Galley) (s : State) (t : ℤ) (normal quiet : List ℕ) (first end : ℕ) → InForce g s t normal quiet first end
in-force g s t normal quiet first end =
    record {
      quiet-duty = λ on. rw on refl;
      normal-duty = λ off. rw off refl;
      quiet-rows = λ on fine. sym (quiet-span g first end normal quiet fine on);
      normal-rows = λ off fine. sym (normal-span g first end normal quiet fine off);
    }

-- a fresh galley whose flag is set, and a span that is not refused: its last row
pub in-force-example :
    let g = (fresh_of (pos 640) (pos 720) false true).galley in
    let table : List ℕ = replicate 48 100 in
    (g.quiet ≡ true) × (span_refusal g 47 48 table table ≡ accepted)
unfolding fresh_of in_range span_refusal valid_galley are_tables
in-force-example = (refl, refl)
