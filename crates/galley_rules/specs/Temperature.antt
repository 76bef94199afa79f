-- "temperature in signed eighths of a degree (-1,024 to 1,023)", and the row that it stands for.
use Rattle.std.specs.Prelude.{ℕ, ◌+◌, ◌*◌, min, Bool, ◌&&◌, List, [], ◌∷◌, ℤ, pos, negsuc, neg_ℤ, ◌-ℤ◌}
use Rattle.std.specs.Int.Signed.{le_z, shr_z}
use Rattle.rules.specs.Basics.{flag}

unfoldable pub in_range : ℤ → Bool
in_range t = le_z (neg_ℤ (pos 1_024)) t && le_z t (pos 1_023)

-- held to 0..47
abbrev pub held : ℤ → ℕ
held (pos n) = min n 47
held (negsuc n) = 0

-- "The row of a temperature is 000's, rows 0 to 47": floor(T / 16) - 8, held to 0..47. `shr_z` divides and rounds down
unfoldable pub row_of : ℤ → ℕ
row_of t = held (shr_z t 16 -ℤ pos 8)

-- ---- 000's own table, for the theorem that the formula is its rows

-- table 7, in degrees: "LUT0 T < +18°C", "LUT1 +18°C ≤ T < +20°C" .. "LUT46 +108°C ≤ T < +110°C", "LUT47 T ≥ +110°C"
abbrev pub row_limits : List ℕ
row_limits =
    18 ∷ 20 ∷ 22 ∷ 24 ∷ 26 ∷ 28 ∷ 30 ∷ 32 ∷ 34 ∷ 36 ∷ 38 ∷ 40 ∷ 42 ∷ 44 ∷ 46 ∷ 48
    ∷ 50 ∷ 52 ∷ 54 ∷ 56 ∷ 58 ∷ 60 ∷ 62 ∷ 64 ∷ 66 ∷ 68 ∷ 70 ∷ 72 ∷ 74 ∷ 76 ∷ 78 ∷ 80
    ∷ 82 ∷ 84 ∷ 86 ∷ 88 ∷ 90 ∷ 92 ∷ 94 ∷ 96 ∷ 98 ∷ 100 ∷ 102 ∷ 104 ∷ 106 ∷ 108 ∷ 110 ∷ []

-- a row begins at each of these limits: how many of them a temperature reaches
unfoldable pub reached : List ℕ → ℤ → ℕ
reached [] t = 0
reached (limit ∷ limits) t = flag (le_z (pos (8 * limit)) t) + reached limits t
