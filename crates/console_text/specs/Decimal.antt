-- A number as decimal digits.
use Rattle.std.specs.Prelude.{ℕ, zero, suc, ◌+◌, ◌-◌, ◌/◌, ◌%◌, ◌&&◌, List, [], ◌∷◌, ◌++◌, eqb, length, replicate, if◌then◌else◌}

-- the digits of n, where there is room for so many: no zero in front but for those that make up the least number of digits
unfoldable pub digits_within : ℕ → ℕ → ℕ → List ℕ
digits_within zero least n = []
digits_within (suc room) least n =
    if eqb n 0 && eqb least 0 then [] else digits_within room (least - 1) (n / 10) ++ ((48 + n % 10) ∷ [])

-- a number of 32 bits, which ten digits hold
unfoldable pub digits_of : ℕ → ℕ → List ℕ
unfolding digits_within
digits_of least n = digits_within 10 least n

-- "Answers are decimal numbers": the fewest digits, and `0` for 0
abbrev pub decimal_of : ℕ → List ℕ
decimal_of n = digits_of 1 n

abbrev pub spaces : ℕ → List ℕ
spaces count = replicate count 32

-- a number with spaces before it up to so many places
unfoldable pub padded : ℕ → ℕ → List ℕ
padded places n = spaces (places - length (decimal_of n)) ++ decimal_of n
