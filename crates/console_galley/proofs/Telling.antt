-- How long the galley's answers are at most, and what they say.
use Prim.Native.Nat.{ℕ, ◌-◌, ◌≤◌}
use mathlib.Core.Path.{◌≡◌, refl}
use mathlib.Core.Bool.{not}
use mathlib.Core.List.{List, [], ◌∷◌}
use native.Mathlib.Omega.{arith}
use lib.Dec.{eqb, ltb}
use lib.Ieee.{Float, binary64, of_bits, round}
use lib.IntN.{pos}
use lib.ListN.{length, take, drop, length-append, length-take}
use lib.Seq.{take_at}
use borrow.Author.Tests.{eqb-true, ltb-false}
use Rattle.rules.proofs.Tests.{by-test}
use Rattle.galley_rules.specs.declared.Galley.{Galley}
use Rattle.galley_rules.specs.Galley.{valid_galley}
use Rattle.galley_rules.specs.Table.{are_tables, in_force}
use Rattle.galley_rules.specs.Degrees.{over8}
use Rattle.galley_rules.specs.Span.{span_refusal, span_rows}
use Rattle.lent.specs.Put.{Put}
use Rattle.lent.proofs.Stores.{put-with-room}
use Rattle.console_text.proofs.Lengths.{digits-length, eighths-length}
use Rattle.console_outcome.specs.declared.hand.Hand.{Hand}
use Rattle.console_outcome.specs.Outcome.{Told, tells_bytes}
use Rattle.console_galley.specs.Commands.{span_told}
use Rattle.console_galley.specs.Commands.{degrees_text, degrees_most}

-- ---- a part has at most 48 rows
accepted-end : (g : Galley) (first end : ℕ) (normal quiet : List ℕ) → span_refusal g first end normal quiet ≡ 0 → end ≤ 48
unfolding span_refusal
accepted-end g first end normal quiet e =
    by-test (not (valid_galley g)) (λ t. absurd (omega (arith, rw t at e)))
    (λ a.
    by-test (not (are_tables normal quiet)) (λ t. absurd (omega (arith, rw (a, t) at e)))
    (λ b.
    by-test (ltb end first) (λ t. absurd (omega (arith, rw (a, b, t) at e)))
    (λ c. by-test (ltb 48 end) (λ t. absurd (omega (arith, rw (a, b, c, t) at e))) (λ d. ltb-false 48 end d))))

part_length : (g : Galley) (first end : ℕ) (normal quiet : List ℕ) → length (span_rows g first end normal quiet) ≤ 48
unfolding span_rows
part_length g first end normal quiet =
    by-test (eqb (span_refusal g first end normal quiet) 0)
    (λ t.
    rw t
    (omega (arith, length-take (end - first) (drop first (in_force g.quiet normal quiet)), accepted-end g first end normal quiet (eqb-true _ 0 t))))
    (λ f. rw f (omega arith))

-- ---- the texts
pub nothing-over8 : over8 (pos 0) ≡ of_bits binary64 0
unfolding over8 round of_bits
nothing-over8 = refl

pub degrees-length : (refusal : ℕ) (x : Float) → length (degrees_text refusal x) ≤ degrees_most
unfolding degrees_text
degrees-length refusal x = simp length-append (omega (arith, digits-length 1 refusal, eighths-length x))

-- the part, in the buffer that it was put into
pub span-told : (hand : Hand) (first end : ℕ) (normal quiet : List ℕ) {refusal next : ℕ} {rows before after : List ℕ} {says : Told} →
    refusal ≡ span_refusal hand.galley first end normal quiet → rows ≡ span_rows hand.galley first end normal quiet →
    48 ≤ length before → Put rows 0 before after next → says ≡ tells_bytes hand (refusal ∷ []) (take next after) →
    says ≡ span_told hand first end normal quiet
span-told hand first end normal quiet {refusal} {next} {rows} e r long p t =
    let few : length rows ≤ 48 = rw r (part_length hand.galley first end normal quiet) in
    let room = put-with-room p (omega arith) in
    let all : length rows ≡ next = omega (arith, room.1) in
    rw (room.0, take_at rows _ next all, e, r) at t
