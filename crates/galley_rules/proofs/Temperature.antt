-- The row of a temperature: it is the one of 000's table 7, at most 47, and never lower for a warmer temperature.
use Prim.Native.Nat.{ℕ, ◌+◌, ◌-◌, ◌/◌, ◌≤◌, ◌<◌, min}
use mathlib.Core.Path.{◌≡◌, refl}
use native.Mathlib.Omega.{arith}
use lib.Dec.{eqb, ltb}
use lib.IntN.{ℤ, pos, negsuc, sub_ℕ, ◌+ℤ◌}
use borrow.Author.Tests.{eqb-true, ltb-true}
use Rattle.rules.proofs.Tests.{by-test, all-below}
use Rattle.galley_rules.specs.Temperature.{row_of, row_limits, reached}

-- every temperature, and every one that the hysteresis can make of it: -1,024 to 1,055 eighths
pub row-is-000s : (n : ℕ) → n < 2_080 → row_of (sub_ℕ n 1_024) ≡ reached row_limits (sub_ℕ n 1_024)
unfolding row_of reached
row-is-000s n h = eqb-true _ _ (all-below 2_080 (λ k. eqb (row_of (sub_ℕ k 1_024)) (reached row_limits (sub_ℕ k 1_024))) refl n h)

-- in natural numbers, where a difference below 0 is 0
pub row-above : (n : ℕ) → row_of (pos n) ≡ min (n / 16 - 8) 47
unfolding row_of
row-above n =
    by-test (ltb (n / 16) 8) (λ e. rw e (omega (arith, ltb-true (n / 16) 8 e))) (λ e. rw e refl)

pub row_below : (n : ℕ) → row_of (negsuc n) ≡ 0
unfolding row_of
row_below n = refl

pub row-le : (t : ℤ) → row_of t ≤ 47
row-le (pos n) = rw (row-above n) (omega arith)
row-le (negsuc n) = rw (row_below n) (omega arith)

pub row-warmer : (t : ℤ) (h : ℕ) → row_of t ≤ row_of (t +ℤ pos h)
row-warmer (pos n) h = rw (row-above n, row-above (n + h)) (omega arith)
row-warmer (negsuc n) h = rw (row_below n) (omega arith)
