-- What a word is as a number: "Numbers are decimal, or hexadecimal after `0x` or `0X` (at least one digit), from 0 to
-- 4,294,967,295; leading zeros are allowed".
use Rattle.std.specs.Prelude.{ℕ, ◌+◌, ◌-◌, ◌*◌, ◌^◌, Bool, ◌&&◌, ◌||◌, List, [], ◌∷◌, get_or, drop, eqb, leb, ltb, if◌then◌else◌, Option, Some, None, Result, Ok, Err}
use Rattle.std.specs.List.{list_all}
use Rattle.console_text.specs.declared.number.NumberError.{NumberError}
use Rattle.console_text.specs.declared.number.NumberError.TheVariants.{TooLarge, NotNumber}

-- "to 4,294,967,295": the first number above
abbrev pub limit : ℕ
limit = 2 ^ 32

-- a byte lies from one to another
abbrev pub within : ℕ → ℕ → ℕ → Bool
within low high byte = leb low byte && leb byte high

-- the digit that a byte is: `0` to `9`, then `A` to `F` or `a` to `f`. Of any other byte 16, which is no digit of a base up to 16
unfoldable pub digit_of : ℕ → ℕ
digit_of byte =
    if within 48 57 byte then byte - 48
    else if within 65 70 byte then byte - 55
    else if within 97 102 byte then byte - 87
    else 16

-- the same, where it is one
unfoldable pub digit_in : ℕ → Option ℕ
digit_in byte = if ltb (digit_of byte) 16 then Some (digit_of byte) else None

-- every byte is a digit of the base
unfoldable pub are_digits : ℕ → List ℕ → Bool
are_digits base text = list_all (λ byte. ltb (digit_of byte) base) text

-- the number that digits spell after digits that spelled n: each further digit makes it the base times as much, and adds its own
unfoldable pub spelled_after : ℕ → ℕ → List ℕ → ℕ
spelled_after base n [] = n
spelled_after base n (byte ∷ text) = spelled_after base (n * base + digit_of byte) text

-- a number, unless it is above the limit
unfoldable pub limited : ℕ → Result ℕ NumberError
limited n = if ltb n limit then Ok n else Err TooLarge

-- a text after digits that spelled n, in a base
unfoldable pub number_after : ℕ → ℕ → List ℕ → Result ℕ NumberError
number_after base n text = if are_digits base text then limited (spelled_after base n text) else Err NotNumber

-- "at least one digit"
unfoldable pub in_base : ℕ → List ℕ → Result ℕ NumberError
in_base base [] = Err NotNumber
in_base base (byte ∷ text) = number_after base 0 (byte ∷ text)

-- a text begins with `0x` or `0X`
unfoldable pub prefixed : List ℕ → Bool
prefixed text = eqb (get_or text 0 0) 48 && (eqb (get_or text 1 0) 120 || eqb (get_or text 1 0) 88)

-- what a text is as a number
unfoldable pub number_of : List ℕ → Result ℕ NumberError
number_of text = if prefixed text then in_base 16 (drop 2 text) else in_base 10 text
