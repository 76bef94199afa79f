-- Demand 1 over both states: a refused call gives them back as they were, a sound galley stays sound and a valid controller valid.
use Prim.Native.Nat.{ℕ}
use mathlib.Core.Path.{◌≡◌, refl}
use mathlib.Core.Bool.{Bool, true, ◌&&◌}
use mathlib.Core.List.{List}
use lib.Dec.{eqb, leb}
use lib.IntN.{ℤ, pos}
use lib.ListN.{replicate}
use borrow.Author.Tests.{le-leb, eqb-true}
use Rattle.rules.specs.Calls.{accepted}
use Rattle.rules.specs.Valid.{valid_of}
use Rattle.rules.specs.Start.{zero_state}
use Rattle.rules.proofs.Tests.{choice, and_left, and_right, and_both}
use Rattle.laws.proofs.Keep.{kept-example, each-valid}
use Rattle.laws.proofs.Valid.{four, of_four}
use Rattle.galley_rules.specs.Types.{State, Galley, GalleyAnswer, SampleAnswer}
use Rattle.galley_rules.specs.Temperature.{in_range}
use Rattle.galley_rules.specs.Galley.{temperature_out_of_range, zero_galley, with_sample, valid_galley, fresh_of}
use Rattle.galley_rules.specs.Table.{are_tables}
use Rattle.galley_rules.specs.Sample.{row_after, sample_refusal, sample_of}
use Rattle.galley_rules.specs.Degrees.{degrees_read}
use Rattle.galley_rules.specs.Demands.{GalleyCall, sample, span, reading, left_by, KeepsBoth}
use Rattle.galley_rules.proofs.Ladders.{sample-facts}
use Rattle.galley_rules.proofs.Hysteresis.{row-after-le}

-- a galley with another row of the table and another temperature in range
sampled-valid : (g : Galley) (t : ℤ) (h : ℕ) → in_range t ≡ true → valid_galley g ≡ true → valid_galley (with_sample g (row_after g.row t h) t) ≡ true
unfolding valid_galley
sampled-valid g t h fine v =
    let were = four (leb g.row 47) (in_range g.temperature) (in_range g.high) (in_range g.over) v in
    of_four _ _ _ _ (le-leb _ 47 (row-after-le g.row t h)) fine were.2 were.3

-- what a sample leaves, by its refusal
abbrev Kept : Galley → State → SampleAnswer → Type 0
Kept g s a =
    ((a.refusal ≡ accepted → ⊥) → (a.galley ≡ g) × (a.state ≡ s))
    × (valid_galley g ≡ true → valid_galley a.galley ≡ true)
    × (valid_of s ≡ true → valid_of a.state ≡ true)
    × (a.galley ≡ with_sample g a.galley.row a.galley.temperature)

sample-keeps : (g : Galley) (s : State) (t : ℤ) (normal quiet : List ℕ) → Kept g s (sample_of g s t normal quiet)
unfolding sample_of
sample-keeps g s t normal quiet =
    choice (Kept g s) (eqb (sample_refusal g s t normal quiet) accepted) _ _
    (λ yes.
    let facts = sample-facts g s t normal quiet (eqb-true _ _ yes) in
    (λ refused. absurd (refused refl), sampled-valid g t _ facts.3, each-valid s _, refl))
    (λ no. (λ refused. (refl, refl), λ v. v, λ v. v, refl))

pub galley-keeps : (g : Galley) (s : State) (call : GalleyCall) → KeepsBoth g s call
unfolding left_by degrees_read
galley-keeps g s (sample t normal quiet) =
    let kept = sample-keeps g s t normal quiet in
    record { refused = kept.0; galley-valid = kept.1; state-valid = kept.2; given_stays = kept.3 }
galley-keeps g s (span first end normal quiet) =
    record { refused = λ no. (refl, refl); galley-valid = λ v. v; state-valid = λ v. v; given_stays = refl }
galley-keeps g s reading = record { refused = λ no. (refl, refl); galley-valid = λ v. v; state-valid = λ v. v; given_stays = refl }

-- two sound states, and a sample that is refused: the temperature is out of range
pub keeps-example :
    let table : List ℕ = replicate 48 0 in
    (valid_galley zero_galley ≡ true) × (valid_of zero_state ≡ true) × (sample_refusal zero_galley zero_state (pos 1_024) table table ≡ temperature_out_of_range)
unfolding sample_refusal valid_galley in_range are_tables
keeps-example = (refl, kept-example.0, rw kept-example.0 refl)

-- a fresh galley is sound, a refused one too
pub fresh-valid : (high over : ℤ) (hysteresis quiet : Bool) → valid_galley (fresh_of high over hysteresis quiet).galley ≡ true
unfolding fresh_of valid_galley in_range
fresh-valid high over hysteresis quiet =
    choice (λ (a : GalleyAnswer). valid_galley a.galley ≡ true) (in_range high && in_range over) _ _
    (λ fine. and_both _ (in_range over) (and_left (in_range high) _ fine) (and_right (in_range high) _ fine)) (λ other. refl)
