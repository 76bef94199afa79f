-- "Its reading gives temperature in degrees, exact".
use Rattle.std.specs.Prelude.{not, Float, ℤ, pos, nat_abs, if◌then◌else◌}
use Rattle.std.specs.Float.{binary64}
use Rattle.std.specs.Float.Ieee.{round}
use Rattle.std.specs.Float.Ieee.Exact.{HasValue}
use Rattle.std.specs.Int.Signed.{non_neg}
use Rattle.rules.specs.Calls.{accepted, state_not_valid}
use Rattle.galley_rules.specs.Types.{Galley, DegreesAnswer}
use Rattle.galley_rules.specs.Galley.{valid_galley}

-- eighths in degrees: the f64 nearest to t / 8, with the sign of t
unfoldable pub over8 : ℤ → Float
over8 t = round binary64 (not (non_neg t)) (nat_abs t) 8

-- "exact": x is t / 8 itself, with nothing rounded; finite, of t's sign, and 8 times its size is t's
abbrev pub Exactly : ℤ → Float → Type 0
Exactly t x = HasValue x (not (non_neg t)) (nat_abs t) 8

-- what is read, in eighths: "a refused reading is 0"
unfoldable pub temperature_read : Galley → ℤ
temperature_read g = if valid_galley g then g.temperature else pos 0

unfoldable pub degrees_read : Galley → DegreesAnswer
degrees_read g =
    record {
      refusal = if valid_galley g then accepted else state_not_valid;
      degrees = over8 (temperature_read g);
      galley = g;
    }
