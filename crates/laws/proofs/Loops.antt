-- A loop over the elements of a list, one after the other from the first on: it changes them, or tests them.
use Prim.Native.Nat.{ℕ, ◌+◌, ◌≤◌, ◌<◌}
use mathlib.Core.Path.{◌≡◌, refl, sym, ◌∙◌, ap, ap₂}
use mathlib.Core.Bool.{Bool, true, ◌&&◌}
use mathlib.Core.List.{List, [], ◌∷◌, ◌++◌, map}
use native.Mathlib.Numerals.{add-one}
use native.Mathlib.Omega.{arith}
use lib.ListN.{length, get_or, set, take, length-map, length-set}
use lib.Seq.{take-suc, take-suc-set, take_all}
use Rattle.rules.specs.Basics.{every}
use Rattle.rules.proofs.Tests.{every_take}
use Rattle.laws.proofs.Each.{map_at}

-- a list that a loop fills with the changed elements: the first n are there
module _ {A B : Type 0} (f : A → B) (xs : List A) where
  pub record Filled (ys : List B) (n : ℕ) : Type 0 where
    pub front : take n ys ≡ take n (map f xs)
    pub long : length ys ≡ length xs
    pub few : n ≤ length xs

  pub filled_none : (ys : List B) → length ys ≡ length xs → Filled ys 0
  filled_none ys l = record { front = refl; long = l; few = omega arith }

  pub filled_more : (ys : List B) (n : ℕ) (y : B) (d : A) → Filled ys n → n < length xs → y ≡ f (get_or xs n d) → Filled (set ys n y) (n + 1)
  filled_more ys n y d v h e =
      let last : get_or (map f xs) n y ≡ y = map_at f xs n d y h ∙ sym e in
      record {
        front =
            rw add-one
            (take-suc-set ys n y (omega (arith, v.long))
            ∙ ap₂ (λ zs z. zs ++ (z ∷ [])) v.front (sym last)
            ∙ sym (take-suc (map f xs) n y (rw length-map h)));
        long = length-set ys n y ∙ v.long;
        few = omega arith;
      }

  pub filled-all : (ys : List B) (n : ℕ) → length xs ≤ n → Filled ys n → ys ≡ map f xs
  filled-all ys n h v = sym (take_all n ys (omega (arith, v.long))) ∙ v.front ∙ take_all n (map f xs) (rw length-map h)

-- a flag that a loop makes false where a test fails: the first n are tested
module _ {A : Type 0} (test : A → Bool) (xs : List A) where
  pub record Tested (flag : Bool) (n : ℕ) : Type 0 where
    pub front : flag ≡ every test (take n xs)
    pub few : n ≤ length xs

  pub tested-none : Tested true 0
  tested-none = record { front = refl; few = omega arith }

  pub tested-more : (flag : Bool) (n : ℕ) (d : A) (told : Bool) → Tested flag n → n < length xs → told ≡ test (get_or xs n d) →
      Tested (flag && told) (n + 1)
  tested-more flag n d told v h e =
      record { front = rw add-one (ap₂ ◌&&◌ v.front e ∙ sym (every_take test xs n d h)); few = omega arith }

  pub tested-all : (flag : Bool) (n : ℕ) → length xs ≤ n → Tested flag n → flag ≡ every test xs
  tested-all flag n h v = v.front ∙ ap (every test) (take_all n xs h)
