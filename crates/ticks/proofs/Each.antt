-- A loop that changes the elements of a list in place, one after the other: the first n are what they come to, and the others as they were.
use Rattle.std.proofs.Common.{◌≡◌, ℕ, ◌+◌, ◌<◌, ◌≤◌, List, [], ◌∷◌, ◌++◌, length, get_or, set, take, drop, refl, sym, ap, ap₂, ◌∙◌, arith, length-set}
use Rattle.std.proofs.Math.Seq.{take_all}
use Rattle.std.proofs.lemmas.List.{take_more, take_more_set, drop-set-lt, get_or-drop, set-get_or}
use Rattle.std.proofs.lemmas.Grind.{drop_more_same}

module _ {A : Type 0} (begin end : List A) where
  pub record Changed (xs : List A) (n : ℕ) : Type 0 where
    pub front : take n xs ≡ take n end
    pub rest : drop n xs ≡ drop n begin
    pub long : length xs ≡ length begin

  pub none-changed : Changed begin 0
  none-changed = record { front = refl; rest = refl; long = refl }

  -- the next one is as it was
  pub next_is : (xs : List A) (n : ℕ) (d : A) → Changed xs n → get_or xs n d ≡ get_or begin n d
  next_is xs n d v =
      let e : n + 0 ≡ n = omega arith in
      sym (ap (λ i. get_or xs i d) e) ∙ sym (get_or-drop n xs 0 d)
      ∙ ap (λ ys. get_or ys 0 d) v.rest ∙ get_or-drop n begin 0 d ∙ ap (λ i. get_or begin i d) e

  module _ (same-long : length end ≡ length begin) where
    pub one-changed : (xs : List A) (n : ℕ) (y d : A) → Changed xs n → n < length begin → y ≡ get_or end n d → Changed (set xs n y) (n + 1)
    one-changed xs n y d v few e =
        record {
          front =
              take_more_set xs n y (omega (arith, v.long))
              ∙ ap₂ (λ zs z. zs ++ z ∷ []) v.front e
              ∙ sym (take_more end n d (omega arith));
          rest = drop-set-lt (n + 1) xs n y (omega arith) ∙ drop_more_same xs begin n v.rest;
          long = length-set xs n y ∙ v.long;
        }

    pub one-kept : (xs : List A) (n : ℕ) (d : A) → Changed xs n → n < length begin → get_or begin n d ≡ get_or end n d → Changed xs (n + 1)
    one-kept xs n d v few e = rw set-get_or at (one-changed xs n (get_or xs n d) d v few (next_is xs n d v ∙ e))

    pub all-changed : (xs : List A) (n : ℕ) → length begin ≤ n → Changed xs n → xs ≡ end
    all-changed xs n h v = sym (take_all n xs (omega (arith, v.long))) ∙ v.front ∙ take_all n end (omega arith)
