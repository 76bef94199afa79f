-- The record at the front of a string: "A reader over the lent string hands out one record at a time."
use Rattle.std.specs.Prelude.{ℕ, ◌-◌, List, [], ◌∷◌, length, drop}
use Rattle.strings.specs.Types.{Call, Partial, Step, Found}
use Rattle.strings.specs.Step.{More, Whole, Refused}
use Rattle.strings.specs.Found as found
use Rattle.strings.specs.Number.{string_ends}
use Rattle.strings.specs.Record.{blank, step_of}

-- what a string begins with: a whole record, as its call, and the string after it; nothing, as it has ended; or a refusal
pub data Front : Type 0 where
  whole : Call → List ℕ → Front
  end : Front
  refused : ℕ → Front

abbrev pub stepped : Step → List ℕ → (Partial → Front) → Front
stepped (More p) rest on = on p
stepped (Whole call) rest on = whole call rest
stepped (Refused refusal) rest on = refused refusal

-- from part of a record on. "10 (string ends first)"
unfoldable pub record_from : Partial → List ℕ → Front
record_from p [] = refused string_ends
record_from p (byte ∷ string) = stepped (step_of p byte) string (λ q. record_from q string)

-- the end of the string between records is no refusal
unfoldable pub front_of : List ℕ → Front
front_of [] = end
front_of (byte ∷ string) = record_from blank (byte ∷ string)

-- the same in a string of so many bytes, with the index after the record
abbrev pub placed : ℕ → Front → Found
placed long (whole call rest) = found.Record call (long - length rest)
placed long end = found.End
placed long (refused refusal) = found.Refused refusal

unfoldable pub record_at : List ℕ → ℕ → Found
record_at string at = placed (length string) (front_of (drop at string))
