-- The motion of a channel is tested in another order than the definition's: a running spin-up is at full duty, so it need not be asked whether it
-- runs where the channel stands still.
use Prim.Native.Nat.{ℕ}
use mathlib.Core.Path.{◌≡◌, refl, sym}
use mathlib.Core.Bool.{Bool, true, false, not, ◌&&◌, ◌||◌, false≢true}
use native.Mathlib.Omega.{arith}
use lib.Dec.{leb, ltb, eqb}
use borrow.Author.Tests.{eqb-true, eqb-false, lt-ltb, le-ltb, le-leb, ne_eqb}
use Rattle.rules.specs.Basics.{◌implies◌}
use Rattle.rules.proofs.Tests.{by-test}

-- by the tests of ramp value and spin-up time: in range, at 0, at 511; none left, in range
ordered : (low still none rests full short : Bool) → (rests implies short) ≡ true → (none implies not full) ≡ true →
    (low && (not still || none) && (rests || (full && short))) ≡ (low && short && (still implies (none && rests)) && (not rests implies full))
ordered false still none rests full short a b = refl
ordered true still none true full false a b = absurd (false≢true a)
ordered true true true true full true a b = refl
ordered true true false true full true a b = refl
ordered true false none true full true a b = refl
ordered true still true false true short a b = absurd (false≢true b)
ordered true true false false true true a b = refl
ordered true true false false true false a b = refl
ordered true false false false true true a b = refl
ordered true false false false true false a b = refl
ordered true true true false false true a b = refl
ordered true true true false false false a b = refl
ordered true true false false false true a b = refl
ordered true true false false false false a b = refl
ordered true false none false false true a b = refl
ordered true false none false false false a b = refl

pub motion-ordered : (still : Bool) (ramp spin : ℕ) →
    (ltb ramp 512 && (not still || eqb ramp 0) && (eqb spin 0 || (eqb ramp 511 && leb spin 1024)))
    ≡ (ltb ramp 512 && leb spin 1024 && (still implies (eqb ramp 0 && eqb spin 0)) && (ltb 0 spin implies eqb ramp 511))
motion-ordered still ramp spin =
    let short : (eqb spin 0 implies leb spin 1024) ≡ true =
    by-test (eqb spin 0) (λ z. rw (z, le-leb spin 1024 (omega (arith, eqb-true spin 0 z))) refl) (λ s. rw s refl) in
    let apart : (eqb ramp 0 implies not (eqb ramp 511)) ≡ true =
    by-test (eqb ramp 0) (λ z. rw (z, ne_eqb ramp 511 (λ f. omega (arith, eqb-true ramp 0 z))) refl) (λ s. rw s refl) in
    let runs : not (eqb spin 0) ≡ ltb 0 spin =
    by-test (eqb spin 0)
    (λ z. rw z (sym (le-ltb 0 spin (omega (arith, eqb-true spin 0 z)))))
    (λ s. rw s (sym (lt-ltb 0 spin (omega (arith, eqb-false spin 0 s))))) in
    rw (← runs) (ordered (ltb ramp 512) still (eqb ramp 0) (eqb spin 0) (eqb ramp 511) (leb spin 1024) short apart)
