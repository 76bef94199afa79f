-- `gread` puts the temperature exactly: the f64 that the call gives is so many eighths, and those are what the text says.
use Prim.Native.Nat.{◌^◌, ◌<◌}
use mathlib.Core.Path.{◌≡◌}
use mathlib.Core.Bool.{true, ◌&&◌}
use native.Mathlib.Omega.{arith}
use lib.Dec.{leb}
use lib.IntN.{ℤ, pos, negsuc, nat_abs}
use lib.Signed.{mag}
use Rattle.rules.proofs.Tests.{by-test, and_left, and_right}
use Rattle.galley_rules.specs.declared.Galley.{Galley}
use Rattle.galley_rules.specs.Temperature.{in_range}
use Rattle.galley_rules.specs.Galley.{valid_galley}
use Rattle.galley_rules.specs.Degrees.{temperature_read, degrees_read}
use Rattle.galley_rules.proofs.Degrees.{over-8-exact}
use Rattle.galley_rows.proofs.Signed.{in-range-fits}
use Rattle.console_text.specs.Fraction.{eighths_text, signed_eighths}
use Rattle.console_text.proofs.Exact.{eighths-exact}

valid-temperature : (g : Galley) → valid_galley g ≡ true → mag g.temperature < 2 ^ 15
unfolding valid_galley
valid-temperature g e =
    let row = leb g.row 47 in
    let temperature = in_range g.temperature in
    let first = and_left (row && temperature) (in_range g.high) (and_left (row && temperature && in_range g.high) (in_range g.over) e) in
    (in-range-fits g.temperature (and_right row temperature first)).sfits

read-temperature : (g : Galley) → mag (temperature_read g) < 2 ^ 15
unfolding temperature_read
read-temperature g = by-test (valid_galley g) (λ t. rw t (valid-temperature g t)) (λ f. rw f (omega arith))

distance : (t : ℤ) → mag t < 2 ^ 15 → nat_abs t < 2 ^ 26
distance (pos n) h = omega arith
distance (negsuc n) h = omega arith

pub degrees-exact : (g : Galley) → eighths_text (degrees_read g).degrees ≡ signed_eighths (temperature_read g)
unfolding degrees_read
degrees-exact g =
    let small = read-temperature g in
    eighths-exact _ (temperature_read g) (over-8-exact (temperature_read g) small) (distance (temperature_read g) small)
