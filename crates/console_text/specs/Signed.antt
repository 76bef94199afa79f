-- "A **signed** number is decimal with `-` before it where it is negative, -2,147,483,648 to 2,147,483,647; hexadecimal has no sign."
use Rattle.std.specs.Prelude.{ℕ, suc, ◌-◌, ◌%◌, Bool, List, [], ◌∷◌, get_or, drop, eqb, ltb, ℤ, pos, negsuc, if◌then◌else◌, Result, Ok, Err}
use Rattle.console_text.specs.declared.number.NumberError.{NumberError}
use Rattle.console_text.specs.declared.number.NumberError.TheVariants as number
use Rattle.console_text.specs.declared.signed.Signed.{Signed}
use Rattle.console_text.specs.declared.signed.Signed.TheVariants.{Plus, Minus}
use Rattle.console_text.specs.declared.signed.SignedError.{SignedError}
use Rattle.console_text.specs.declared.signed.SignedError.TheVariants.{TooLarge, TooSmall, NotSigned}
use Rattle.console_text.specs.Number.{in_base, number_of}
use Rattle.console_text.specs.Decimal.{decimal_of}

-- a number without a sign; why it is none
abbrev pub unsigned_error : NumberError → SignedError
unsigned_error number.TooLarge = TooLarge
unsigned_error number.NotNumber = NotSigned

abbrev pub without_sign : Result ℕ NumberError → Result Signed SignedError
without_sign (Ok n) = Ok (Plus n)
without_sign (Err e) = Err (unsigned_error e)

-- a number after the sign. `-0` is 0
abbrev pub after_sign : Result ℕ NumberError → Result Signed SignedError
after_sign (Ok n) = Ok (if eqb n 0 then Plus 0 else Minus (n - 1))
after_sign (Err number.TooLarge) = Err TooSmall
after_sign (Err number.NotNumber) = Err NotSigned

-- what a text is as a signed number
unfoldable pub signed_of : List ℕ → Result Signed SignedError
signed_of text = if eqb (get_or text 0 0) 45 then after_sign (in_base 10 (drop 1 text)) else without_sign (number_of text)

-- a signed number as 32 bits: its two's complement
abbrev pub bits_of : ℤ → ℕ
bits_of (pos n) = n
bits_of (negsuc n) = 4_294_967_295 - n

-- and back
unfoldable pub integer_of : ℕ → ℤ
integer_of bits = if ltb bits 2_147_483_648 then pos bits else negsuc (4_294_967_295 - bits)

-- the same of the low 16 bits
unfoldable pub short_of : ℕ → ℤ
short_of bits = let low = bits % 65_536 in if ltb low 32_768 then pos low else negsuc (65_535 - low)

-- what stands before a number, by whether it is negative
abbrev pub sign_of : Bool → List ℕ
sign_of negative = if negative then 45 ∷ [] else []

-- "decimal with `-` before it where it is negative"
abbrev pub signed_decimal : ℤ → List ℕ
signed_decimal (pos n) = decimal_of n
signed_decimal (negsuc n) = 45 ∷ decimal_of (suc n)
