-- Hysteresis, in the words that people use.
use Prim.Native.Nat.{ℕ, ◌≤◌}
use mathlib.Core.Path.{◌≡◌, refl}
use native.Mathlib.Omega.{arith}
use lib.IntN.{ℤ, pos, ◌+ℤ◌}
use Rattle.galley_rules.specs.Temperature.{row_of}
use Rattle.galley_rules.specs.Sample.{row_after}
use Rattle.galley_rules.specs.Demands.{Hysteresis}
use Rattle.galley_rules.proofs.Temperature.{row-le, row-warmer}

pub hysteresis : (row : ℕ) (t : ℤ) (h : ℕ) → Hysteresis row t h
unfolding row_after
hysteresis row t h =
    let warmer = row-warmer t h in
    record {
      rises = λ below. omega (arith, warmer);
      falls = λ above. omega (arith, warmer);
      stays = λ low high. omega arith;
    }

-- at 40 degrees (320 eighths, row 12) and 2 degrees of hysteresis, the row of T + h is 13: row 11 rises, row 14 falls, row 13 stays
pub hysteresis-example :
    (row_of (pos 320) ≡ 12) × (row_of (pos 336) ≡ 13) × (row_after 11 (pos 320) 16 ≡ 12) × (row_after 14 (pos 320) 16 ≡ 13) × (row_after 13 (pos 320) 16 ≡ 13)
unfolding row_after row_of
hysteresis-example = (refl, refl, refl, refl, refl)

-- the row after a sample is one of the table's
pub row-after-le : (row : ℕ) (t : ℤ) (h : ℕ) → row_after row t h ≤ 47
unfolding row_after
row-after-le row t h = omega (arith, row-le t, row-le (t +ℤ pos h))
