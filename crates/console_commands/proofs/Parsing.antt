-- What a line is, by how it is read.
use mathlib.Core.Path.{◌≡◌}
use mathlib.Core.Bool.{true, false}
use mathlib.Core.List.{List, []}
use Prim.Native.Nat.{ℕ}
use lib.ListN.{length}
use lib.Dec.{eqb}
use Rattle.std.specs.Prelude.{Result, Ok, Err}
use Rattle.console_commands.specs.declared.Parsed.{Parsed}
use Rattle.console_commands.specs.declared.Reason.{Reason}
use Rattle.console_commands.specs.declared.Reason.TheVariants.{WordCount}
use Rattle.console_commands.specs.Commands.{Line, line_of, taken_of, numbers_of, bytes_in, parsed_as, parsed_of, values_of, bytes_of}

-- what a line is, and what it hands over
pub record Is (words : List (List ℕ)) (parsed : Result Parsed Reason) (values bytes : List ℕ) : Type 0 where
  pub parsed_as : parsed ≡ parsed_of words
  pub values_as : values_of words ≡ values
  pub bytes_as : bytes_of words ≡ bytes

module _ (words : List (List ℕ)) where
  pub refused-line : {reason : Reason} → line_of words ≡ Err reason → Is words (Err reason) [] []
  unfolding parsed_of values_of bytes_of
  refused-line e = record { parsed_as = rw e; values_as = rw e; bytes_as = rw e }

  module _ {line : Line} (e : line_of words ≡ Ok line) where
    pub miscounted-line : eqb (length line.words) (length line.parameters) ≡ false → Is words (Err (WordCount line.place)) [] []
    unfolding parsed_of values_of bytes_of
    miscounted-line f = record { parsed_as = rw (e, f); values_as = rw (e, f); bytes_as = rw (e, f) }

    pub counted-line : eqb (length line.words) (length line.parameters) ≡ true →
        Is words (parsed_as line.parsed (taken_of line.parameters line.first line.words)) (numbers_of line.parameters line.first line.words)
        (bytes_in line.parameters line.words)
    unfolding parsed_of values_of bytes_of
    counted-line t = record { parsed_as = rw (e, t); values_as = rw (e, t); bytes_as = rw (e, t) }
