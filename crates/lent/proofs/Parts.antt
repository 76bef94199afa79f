-- More than all of a list is all of it.
use Prim.Native.Nat.{ℕ, min}
use mathlib.Core.Path.{◌≡◌, sym, ◌∙◌}
use mathlib.Core.List.{List}
use native.Mathlib.Decide.{dec_lt}
use native.Mathlib.Omega.{arith}
use lib.ListN.{length, take}
use lib.Seq.{take_all, take-length}

pub take_min : (n : ℕ) (xs : List ℕ) → take (min n (length xs)) xs ≡ take n xs
take_min n xs =
    elim (dec_lt n (length xs)) [
      | yes l ↦ let e : min n (length xs) ≡ n = omega arith in rw e
      | no g ↦
          let e : min n (length xs) ≡ length xs = omega arith in
          rw e (take-length xs ∙ sym (take_all n xs (omega arith)))
    ]
