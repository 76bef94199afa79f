-- A number of a list that was lent, and as much of it as a field holds.
use Rattle.std.specs.Prelude.{ℕ, ◌%◌, List, get_or}

-- number k of them, and 0 where there are not so many
abbrev pub number : List ℕ → ℕ → ℕ
number values k = get_or values k 0

abbrev pub byte_of : ℕ → ℕ
byte_of n = n % 256

abbrev pub word_of : ℕ → ℕ
word_of n = n % 65536
