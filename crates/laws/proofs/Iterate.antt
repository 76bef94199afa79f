-- A rule applied many times.
use Prim.Native.Nat.{ℕ, zero, suc, ◌+◌}
use mathlib.Core.Path.{◌≡◌, refl}
use native.Mathlib.Nat.{zero-add, suc-add}
use Rattle.rules.specs.Tick.{iterate}

module _ {A : Type 0} (rule : A → A) where
  pub iterate-first : (n : ℕ) (a : A) → iterate (suc n) rule a ≡ iterate n rule (rule a)
  unfolding iterate
  iterate-first n a = refl

  pub iterate-last : (n : ℕ) (a : A) → iterate (suc n) rule a ≡ rule (iterate n rule a)
  unfolding iterate
  iterate-last zero a = refl
  iterate-last (suc n) a = iterate-last n (rule a)

  pub iterate-add : (m n : ℕ) (a : A) → iterate (m + n) rule a ≡ iterate n rule (iterate m rule a)
  unfolding iterate
  iterate-add zero n a = rw zero-add
  iterate-add (suc m) n a = rw suc-add (iterate-add m n (rule a))
