-- What the other files are written in: tests over a list, and the bits of a number.
use Rattle.std.specs.Prelude.{ℕ, ◌+◌, ◌-◌, ◌*◌, ◌/◌, ◌%◌, ◌^◌, Bool, not, ◌||◌, if◌then◌else◌, eqb}
-- the test holds of every element; of some element
pub use Rattle.std.specs.List.{list_all as every, list_any as some}

infixr 20 ◌implies◌
-- where a holds, b holds
abbrev pub ◌implies◌ : Bool → Bool → Bool
a implies b = not a || b

-- bit n of a number, bit 0 the lowest
abbrev pub bit : ℕ → ℕ → Bool
bit n x = eqb (x / 2 ^ n % 2) 1

-- bits high:low of a number, as a number
abbrev pub bits : ℕ → ℕ → ℕ → ℕ
bits high low x = x / 2 ^ low % 2 ^ (high - low + 1)

-- bits high:low of a number, each in its place, and 0 elsewhere
abbrev pub keep : ℕ → ℕ → ℕ → ℕ
keep high low x = bits high low x * 2 ^ low

-- a flag as a bit
abbrev pub flag : Bool → ℕ
flag on = if on then 1 else 0
