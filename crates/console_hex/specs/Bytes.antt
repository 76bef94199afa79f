-- Bytes as text: "A parameter that is bytes is hexadecimal digits in pairs, capital or small; `-` is the empty string of bytes.
-- Printed bytes are small letters, `-` where there are none."
use Rattle.std.specs.Prelude.{ℕ, ◌+◌, ◌*◌, ◌/◌, ◌%◌, Bool, ◌&&◌, List, [], ◌∷◌, length, get_or, eqb, ltb, if◌then◌else◌, Option, Some, None, option_map, unwrap_or}
use Rattle.std.specs.List.{flat_map}
use Rattle.console_text.specs.Number.{digit_of, are_digits}

-- ---- printed

-- the digit of a number below 16: `0` to `9`, then `a` to `f`
unfoldable pub hex_digit : ℕ → ℕ
hex_digit n = if ltb n 10 then 48 + n else 87 + n

abbrev pub hex_pair : ℕ → List ℕ
hex_pair byte = hex_digit (byte / 16) ∷ hex_digit (byte % 16) ∷ []

unfoldable pub hex_pairs : List ℕ → List ℕ
hex_pairs bytes = flat_map hex_pair bytes

unfoldable pub hex_of : List ℕ → List ℕ
hex_of [] = 45 ∷ []
hex_of (byte ∷ bytes) = hex_pairs (byte ∷ bytes)

-- ---- read

-- "An odd number of digits or another character is an `error:` line"
unfoldable pub are_pairs : List ℕ → Bool
are_pairs word = eqb (length word % 2) 0 && are_digits 16 word

-- the bytes of digits in pairs, the high digit first
unfoldable pub pairs_in : List ℕ → List ℕ
pairs_in [] = []
pairs_in (digit ∷ []) = []
pairs_in (high ∷ low ∷ word) = (digit_of high * 16 + digit_of low) ∷ pairs_in word

unfoldable pub is_dash : List ℕ → Bool
is_dash word = eqb (length word) 1 && eqb (get_or word 0 0) 45

-- what a word is as bytes, if it is any
unfoldable pub bytes_of : List ℕ → Option (List ℕ)
bytes_of word = if are_pairs word then Some (pairs_in word) else if is_dash word then Some [] else None

-- how many they are; and which, none of a word that is no bytes
abbrev pub count_of : Option (List ℕ) → Option ℕ
count_of bytes = option_map length bytes

abbrev pub list_of : Option (List ℕ) → List ℕ
list_of bytes = unwrap_or bytes []
