-- An f64 in decimal, where it counts 512ths or eighths: "each with exactly nine decimals, as `8388607.998046875`, `0.996093750`, `1.000000000`".
use Rattle.std.specs.Prelude.{ℕ, zero, suc, ◌+◌, ◌*◌, ◌/◌, ◌%◌, ◌^◌, false, List, ◌∷◌, ◌++◌, ℤ, pos, negsuc, Float, if◌then◌else◌}
use Rattle.std.specs.Float.{fin}
use Rattle.std.specs.Float.Ieee.{neg, lt, le}
use Rattle.rules.specs.Reading.{over512}
use Rattle.console_text.specs.Decimal.{digits_of, decimal_of}

-- the most 512ths that are not above x, among n and the 2 ^ bits - 1 after it
unfoldable pub parts_after : ℕ → ℕ → Float → ℕ
parts_after zero n x = n
parts_after (suc bits) n x = parts_after bits (if le (over512 (n + 2 ^ bits)) x then n + 2 ^ bits else n) x

-- how many 512ths x has, from 0 to 4,294,967,295. Of an x below 0 and of what is no number it is 0
unfoldable pub parts_of : Float → ℕ
parts_of x = parts_after 32 0 x

-- n 512ths: the whole part, a point, and the nine digits of the rest, a 512th being 1,953,125 of 10 ^ 9
unfoldable pub nine_decimals : ℕ → List ℕ
nine_decimals n = decimal_of (n / 512) ++ 46 ∷ digits_of 9 (n % 512 * 1953125)

-- n eighths: the whole part, a point, and the three digits of the rest, an eighth being 125 of 10 ^ 3
unfoldable pub three_decimals : ℕ → List ℕ
three_decimals n = decimal_of (n / 8) ++ 46 ∷ digits_of 3 (n % 8 * 125)

-- "degrees with exactly three decimals, as `-0.125`, `78.000`": an f64 that counts eighths, with `-` before it where it is below 0
unfoldable pub eighths_text : Float → List ℕ
eighths_text x =
    if lt x (fin false 0 (pos 0)) then 45 ∷ three_decimals (parts_of (neg x) / 64) else three_decimals (parts_of x / 64)

-- so many eighths, as text
unfoldable pub signed_eighths : ℤ → List ℕ
signed_eighths (pos n) = three_decimals n
signed_eighths (negsuc n) = 45 ∷ three_decimals (suc n)
