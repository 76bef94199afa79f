-- Eighths of a degree divided as the machine divides are exact, and so is the reading.
use Prim.Native.Nat.{ℕ, suc, ◌^◌, ◌<◌}
use mathlib.Core.Path.{◌≡◌, refl}
use mathlib.Core.Bool.{true, false, not}
use native.Mathlib.Omega.{arith}
use native.Mathlib.Nat.{le_of_lt}
use lib.Ieee.{Float, fin, binary64, of_int, div}
use lib.Ieee.Back.{round_whole}
use lib.Ieee.Exact.{HasValue}
use lib.IntN.{ℤ, pos, negsuc, nat_abs}
use lib.Signed.{mag, non_neg}
use Rattle.rules.specs.Calls.{accepted, state_not_valid}
use Rattle.laws.proofs.Exact.{fraction-exact, divided-is-rounded}
use Rattle.galley_rules.specs.Types.{Galley}
use Rattle.galley_rules.specs.Galley.{valid_galley}
use Rattle.galley_rules.specs.Degrees.{over8, Exactly, temperature_read, degrees_read}

-- the size of a number of 16 bits
size_small : (t : ℤ) → mag t < 2 ^ 15 → nat_abs t < 2 ^ 53
size_small (pos n) h = omega arith
size_small (negsuc n) h = omega arith

pub over-8-exact : (t : ℤ) → mag t < 2 ^ 15 → Exactly t (over8 t)
unfolding over8
over-8-exact t h = fraction-exact (not (non_neg t)) (nat_abs t) 3 (size_small t h) (omega arith)

-- a number as an f64, divided by 8.0
whole : (t : ℤ) → nat_abs t < 2 ^ 53 → HasValue (of_int binary64 t) (not (non_neg t)) (nat_abs t) 1
unfolding of_int
whole (pos n) h = round_whole binary64 false n (le_of_lt h)
whole (negsuc n) h = round_whole binary64 true (suc n) (le_of_lt h)

pub divided-by-8 : (t : ℤ) → mag t < 2 ^ 15 → div binary64 (of_int binary64 t) (fin false 1 (pos 3)) ≡ over8 t
unfolding over8
divided-by-8 t h = divided-is-rounded (not (non_neg t)) (of_int binary64 t) (nat_abs t) 3 (whole t (size_small t h))

-- ---- the promise of the call, from what its test told

abbrev pub ReadAs : Galley → ℕ → Float → Type 0
ReadAs g refusal degrees =
    (record { refusal = refusal; degrees = degrees; galley = g } ≡ degrees_read g) × Exactly (temperature_read g) degrees

pub degrees-refused : (g : Galley) → valid_galley g ≡ false → ReadAs g state_not_valid (over8 (pos 0))
unfolding degrees_read temperature_read
degrees-refused g bad = rw bad (refl, over-8-exact (pos 0) (omega arith))

pub degrees-given : (g : Galley) → mag g.temperature < 2 ^ 15 → valid_galley g ≡ true → ReadAs g accepted (over8 g.temperature)
unfolding degrees_read temperature_read
degrees-given g fits good = rw good (refl, over-8-exact g.temperature fits)
