-- An array that a closure makes, place after place.
use Prim.Native.Nat.{ℕ, zero, suc, ◌+◌}
use mathlib.Core.Path.{◌≡◌, refl, ap}
use mathlib.Core.List.{List, ◌∷◌, map}
use native.Mathlib.Omega.{arith}
use lib.ListN.{length, drop}
use lib.Seq.{drop-cons}
use Rattle.std.proofs.lemmas.List.{drop_all}
use native.Mathlib.Numerals.{add-one}
use Rattle.std.specs.Fn.{Mut, Called}
use Rattle.std.specs.Array.{IsFromFnResultFrom, IsFromFnResult}
use Rattle.std.specs.List.{range_with_len}

-- By one that returns h of each place and keeps what it holds.
module _ {F B : Type 0} {g : Mut F (ℕ × Unit {0}) B} (h : ℕ → B) {f : F} where
  made_from : ((x : ℕ) (r : B) (q : F) → Called g f (x, tt) r q → (q ≡ f) × (r ≡ h x)) →
      (ys : List B) (n i : ℕ) (p : F) → p ≡ f → length ys ≡ i + n → IsFromFnResultFrom g p ys i n → drop i ys ≡ map h (range_with_len i n)
  made_from each ys zero i p same long m = drop_all i ys (omega arith)
  made_from each ys (suc n) i p same long (q, y, at-y, called, rest) =
      let told = each i y q (rw same at called) in
      rw (drop-cons ys i y (omega arith), at-y.0, told.1)
      (ap (λ zs. h i ∷ zs) (rw (← add-one) (made_from each ys n (i + 1) q told.0 (omega arith) rest)))

  pub made-from_IsFromFnResult : {ys : List B} {n : ℕ} → IsFromFnResult g f ys n →
      ((x : ℕ) (r : B) (q : F) → Called g f (x, tt) r q → (q ≡ f) × (r ≡ h x)) → ys ≡ map h (range_with_len 0 n)
  made-from_IsFromFnResult {ys} {n} m each = made_from each ys n 0 f refl (omega (arith, m.long)) m.each
