-- Which results are bad: by the target count below a stored count of 2,047, and for any target at it.
use Prim.Native.Nat.{ℕ, ◌<◌}
use mathlib.Core.Path.{◌≡◌, refl, sym}
use mathlib.Core.Bool.{true, false}
use mathlib.Core.List.{[], ◌∷◌, map}
use native.Mathlib.Omega.{arith}
use lib.Dec.{ltb, eqb}
use borrow.Author.Tests.{lt-ltb, ne_eqb, eqb-true}
use Rattle.rules.specs.Types.{Channel}
use Rattle.rules.specs.State.{blank, with_settings}
use Rattle.rules.specs.Registers.{target_count}
use Rattle.rules.specs.Tachometer.{is_bad}
use Rattle.rules.proofs.Tests.{by-test}

module _ (ch : Channel) where
  -- K3: "a stored count of 2,047 is bad for any target"
  pub bad-at-2047 : is_bad ch 2047 ≡ true
  unfolding is_bad
  bad-at-2047 = refl

  -- below it a count is bad exactly when it exceeds the target count
  pub bad-below-2047 : (stored : ℕ) → stored < 2047 → is_bad ch stored ≡ ltb (target_count ch) stored
  unfolding is_bad
  bad-below-2047 stored below = rw (ne_eqb stored 2047 (omega (arith, below))) refl

  -- and so is every count where the target count is below 2,047: what is left is both at 2,047
  pub bad-by-target : (stored : ℕ) → target_count ch < 2047 → is_bad ch stored ≡ ltb (target_count ch) stored
  unfolding is_bad
  bad-by-target stored below =
      by-test (eqb stored 2047)
      (λ e. rw e (sym (lt-ltb (target_count ch) stored (omega (arith, below, eqb-true stored 2047 e)))))
      (λ e. rw e refl)

-- a channel with this target count
abbrev aimed_at : ℕ → Channel
aimed_at count = with_settings blank 0 0 0 0 count

-- target counts of 2,047, of 2,046, of 2,045 and of 0: good up to the target, bad above it, and bad at 2,047
pub bad-examples : (map (is_bad (aimed_at 2047)) (2045 ∷ 2046 ∷ 2047 ∷ []) ≡ false ∷ false ∷ true ∷ [])
    × (map (is_bad (aimed_at 2046)) (2045 ∷ 2046 ∷ 2047 ∷ []) ≡ false ∷ false ∷ true ∷ [])
    × (map (is_bad (aimed_at 2045)) (2045 ∷ 2046 ∷ 2047 ∷ []) ≡ false ∷ true ∷ true ∷ [])
    × (map (is_bad (aimed_at 0)) (0 ∷ 1 ∷ 2047 ∷ []) ≡ false ∷ true ∷ true ∷ [])
unfolding is_bad
bad-examples = (refl, refl, refl, refl)
