-- A list whose elements are all changed.
use Prim.Native.Nat.{ℕ, zero, suc, ◌+◌, ◌<◌}
use mathlib.Core.Path.{◌≡◌, refl, sym, ◌∙◌, ap, ap₂}
use mathlib.Core.List.{List, [], ◌∷◌, map}
use native.Mathlib.Numerals.{add-one}
use native.Mathlib.Omega.{arith}
use lib.ListN.{length, get_or, drop, length-map}
use lib.Seq.{drop-cons}
use Rattle.std.proofs.lemmas.List.{drop_all}
use Rattle.std.specs.Fn.{Mut, Called}
use Rattle.std.specs.Array.{MapsFrom, IsMapOf}

-- element i of a list whose elements are all changed
pub map_at : {A B : Type 0} (f : A → B) (xs : List A) (i : ℕ) (d : A) (e : B) → i < length xs → get_or (map f xs) i e ≡ f (get_or xs i d)
map_at f [] i d e h = absurd (omega arith)
map_at f (x ∷ xs) zero d e h = refl
map_at f (x ∷ xs) (suc i) d e h = map_at f xs i d e (omega arith)

-- as many elements before the change as after it
pub length_before : (A B : Type 0) (f : A → B) (xs : List A) (n : ℕ) → length (map f xs) ≡ n → length xs ≡ n
length_before A B f xs n e = sym (length-map xs f) ∙ e

-- a change that leaves each element as it is
pub map_same : {A : Type 0} (f : A → A) → ((x : A) → f x ≡ x) → (xs : List A) → map f xs ≡ xs
map_same f same [] = refl
map_same f same (x ∷ xs) = ap₂ (λ y ys. y ∷ ys) (same x) (map_same f same xs)

-- two changes that agree on each element
pub map-alike : {A B : Type 0} (f g : A → B) → ((x : A) → f x ≡ g x) → (xs : List A) → map f xs ≡ map g xs
map-alike f g alike [] = refl
map-alike f g alike (x ∷ xs) = ap₂ (λ y ys. y ∷ ys) (alike x) (map-alike f g alike xs)

-- An array's `map`, by a closure that returns h of each element and keeps what it holds. Where the code is `xs.map(f)`:
-- `returns c = map-from_IsMapOf h c.map.ensures.items (omega arith) (λ x r q k. search rules)`
module _ {F A B : Type 0} {g : Mut F (A × Unit {0}) B} (h : A → B) {f : F} where
  mapped_from : ((x : A) (r : B) (q : F) → Called g f (x, tt) r q → (q ≡ f) × (r ≡ h x)) →
      (xs : List A) (ys : List B) (n i : ℕ) (p : F) → p ≡ f → length xs ≡ i + n → length ys ≡ i + n → MapsFrom g p xs ys i n → drop i ys ≡ map h (drop i xs)
  mapped_from each xs ys zero i p same long-xs long-ys m =
      rw (drop_all i xs (omega arith), drop_all i ys (omega arith)) refl
  mapped_from each xs ys (suc n) i p same long-xs long-ys (q, x, y, at-x, at-y, called, rest) =
      let told = each x y q (rw same at called) in
      rw (drop-cons xs i x (omega arith), drop-cons ys i y (omega arith), at-x.0, at-y.0, told.1)
      (ap (λ zs. h x ∷ zs) (rw add-one at (mapped_from each xs ys n (i + 1) q (told.0) (omega arith) (omega arith) rest)))

  pub map-from_IsMapOf : {xs : List A} {ys : List B} {n : ℕ} → IsMapOf g f xs ys n → length xs ≡ n →
      ((x : A) (r : B) (q : F) → Called g f (x, tt) r q → (q ≡ f) × (r ≡ h x)) → ys ≡ map h xs
  map-from_IsMapOf {xs} {ys} {n} m long each = mapped_from each xs ys n 0 f refl (omega arith) (omega (arith, m.long)) m.each
