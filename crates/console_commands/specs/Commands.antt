-- A line as a command: "A line that is not a call (unknown word, wrong number of words, not a number, a number too large for
-- that parameter ..) answers `error: line N: REASON`".
use Rattle.std.specs.Prelude.{ℕ, ◌+◌, ◌≤◌, Bool, List, [], ◌∷◌, ◌++◌, map, length, eqb, ltb, pos, negsuc, Option, Some, None, Result, Ok, Err, if◌then◌else◌}
use Rattle.console_text.specs.declared.number.NumberError.{NumberError}
use Rattle.console_text.specs.declared.number.NumberError.TheVariants as number
use Rattle.console_text.specs.declared.signed.Signed.{Signed}
use Rattle.console_text.specs.declared.signed.Signed.TheVariants.{Plus, Minus}
use Rattle.console_text.specs.declared.signed.SignedError.{SignedError}
use Rattle.console_text.specs.declared.signed.SignedError.TheVariants as signed
use Rattle.console_text.specs.Number.{number_of}
use Rattle.console_text.specs.Signed.{signed_of, bits_of}
use Rattle.console_hex.specs.Bytes.{bytes_of as spelled_by, count_of, list_of}
use Rattle.console_text.specs.Words.{words_of}
use Rattle.console_table.specs.declared.Asks.{Asks}
use Rattle.console_table.specs.declared.Asks.TheVariants.{For, Record}
use Rattle.console_table.specs.declared.Parameter.{Parameter}
use Rattle.console_table.specs.declared.Parameter.TheVariants as parameter
use Rattle.console_table.specs.declared.Request.TheVariants as request
use Rattle.console_commands.specs.declared.Reason.{Reason}
use Rattle.console_commands.specs.declared.Reason.TheVariants.{UnknownCommand, WordCount, NotNumber, TooLarge, TooSmall, NotBytes, NoRecord, LineTooLong}
use Rattle.console_commands.specs.declared.Parsed.{Parsed}
use Rattle.console_commands.specs.declared.Parsed.TheVariants as parsed
use Rattle.console_table.specs.Table.{Row, any, Named, named_by}

-- ---- its parameters

-- a number as the word at a place, with the largest that it may be
abbrev pub value_by : ℕ → ℕ → Result ℕ NumberError → Result ℕ Reason
value_by most place (Ok n) = if ltb most n then Err (TooLarge place most) else Ok n
value_by most place (Err number.TooLarge) = Err (TooLarge place most)
value_by most place (Err number.NotNumber) = Err (NotNumber place)

-- a signed number, with the largest that it may be: the smallest is one further from 0. It is handed over as its 32 bits
abbrev pub signed_by : ℕ → ℕ → Result Signed SignedError → Result ℕ Reason
signed_by most place (Ok (Plus n)) = if ltb most n then Err (TooLarge place most) else Ok (bits_of (pos n))
signed_by most place (Ok (Minus n)) = if ltb most n then Err (TooSmall place most) else Ok (bits_of (negsuc n))
signed_by most place (Err signed.TooLarge) = Err (TooLarge place most)
signed_by most place (Err signed.TooSmall) = Err (TooSmall place most)
signed_by most place (Err signed.NotSigned) = Err (NotNumber place)

-- two digits a byte: a line of 4,096 bytes has no more
abbrev pub line_bytes : ℕ
line_bytes = 2_048

-- bytes as the word at a place: the value is how many they are. "`word K is not bytes`"
abbrev pub count_by : ℕ → Option ℕ → Result ℕ Reason
count_by place (Some count) = if ltb line_bytes count then Err LineTooLong else Ok count
count_by place None = Err (NotBytes place)

-- what a word is as a parameter. Its place is counted from 1, the line's first word among them
unfoldable pub value_of : Parameter → ℕ → List ℕ → Result ℕ Reason
value_of (parameter.Number most) place word = value_by most place (number_of word)
value_of (parameter.Signed most) place word = signed_by most place (signed_of word)
value_of parameter.Bytes place word = count_by place (count_of (spelled_by word))

-- the first word that cannot be taken decides
abbrev pub taken_by : Result ℕ Reason → Result (Unit {0}) Reason → Result (Unit {0}) Reason
taken_by (Ok n) rest = rest
taken_by (Err reason) rest = Err reason

unfoldable pub taken_of : List Parameter → ℕ → List (List ℕ) → Result (Unit {0}) Reason
taken_of [] place words = Ok tt
taken_of (parameter ∷ parameters) place [] = Ok tt
taken_of (parameter ∷ parameters) place (word ∷ words) = taken_by (value_of parameter place word) (taken_of parameters (place + 1) words)

-- the values before it
abbrev pub values_before : Result ℕ Reason → List ℕ → List ℕ
values_before (Ok n) rest = n ∷ rest
values_before (Err reason) rest = []

unfoldable pub numbers_of : List Parameter → ℕ → List (List ℕ) → List ℕ
numbers_of [] place words = []
numbers_of (parameter ∷ parameters) place [] = []
numbers_of (parameter ∷ parameters) place (word ∷ words) = values_before (value_of parameter place word) (numbers_of parameters (place + 1) words)

-- the bytes of all bytes parameters, one after the other
abbrev pub bytes_as : Parameter → List ℕ → List ℕ
bytes_as (parameter.Number most) word = []
bytes_as (parameter.Signed most) word = []
bytes_as parameter.Bytes word = list_of (spelled_by word)

unfoldable pub bytes_in : List Parameter → List (List ℕ) → List ℕ
bytes_in [] words = []
bytes_in (parameter ∷ parameters) [] = []
bytes_in (parameter ∷ parameters) (word ∷ words) = bytes_as parameter word ++ bytes_in parameters words

-- ---- how a line is read

-- by a row of the table, at its place there: what the line is if its parameters can be taken, the parameters, the place of the word
-- that is the first of them, and the words; or a reason why it is no call
pub record Line : Type 0 where
  pub place : ℕ
  pub parsed : Parsed
  pub parameters : List Parameter
  pub first : ℕ
  pub words : List (List ℕ)

abbrev pub reading : ℕ → Parsed → List Parameter → ℕ → List (List ℕ) → Result Line Reason
reading i line parameters first words = Ok (record { place = i; parsed = line; parameters = parameters; first = first; words = words })

-- "every number may go to 4,294,967,295"
abbrev pub widened : List Parameter → List Parameter
widened parameters = map (λ parameter. any) parameters

-- "CALL is a line of a call that has a kind"
abbrev pub record_by : ℕ → Row → Asks → List (List ℕ) → Result Line Reason
record_by i row (For (request.Call kind)) words = reading i (parsed.Encode kind) (widened row.parameters) 3 words
record_by i row (For (request.Verb verb)) words = Err NoRecord
record_by i row (For (request.View view)) words = Err NoRecord
record_by i row Record words = Err NoRecord

abbrev pub record_as : Option Named → List (List ℕ) → Result Line Reason
record_as None words = Err NoRecord
record_as (Some named) words = record_by named.place named.row named.row.asks words

-- the words after `encode`, whose row stands at a place
unfoldable pub record_of : ℕ → List (List ℕ) → Result Line Reason
record_of place [] = Err (WordCount place)
record_of place (word ∷ words) = record_as (named_by word) words

abbrev pub line_by : ℕ → Row → Asks → List (List ℕ) → Result Line Reason
line_by i row (For request) words = reading i (parsed.For request) row.parameters 2 words
line_by i row Record words = record_of i words

abbrev pub line_as : Option Named → List (List ℕ) → Result Line Reason
line_as None words = Err UnknownCommand
line_as (Some named) words = line_by named.place named.row named.row.asks words

unfoldable pub line_of : List (List ℕ) → Result Line Reason
line_of [] = Err UnknownCommand
line_of (word ∷ words) = line_as (named_by word) words

-- ---- what a line is

abbrev pub parsed_as : Parsed → Result (Unit {0}) Reason → Result Parsed Reason
parsed_as line (Ok taken) = Ok line
parsed_as line (Err reason) = Err reason

-- it has as many words as parameters
abbrev pub counted : Line → Bool
counted line = eqb (length line.words) (length line.parameters)

abbrev pub parsed_by : Result Line Reason → Result Parsed Reason
parsed_by (Err reason) = Err reason
parsed_by (Ok line) =
    if counted line then parsed_as line.parsed (taken_of line.parameters line.first line.words) else Err (WordCount line.place)

-- the values that it hands over: its numbers, and how many bytes each bytes parameter has
abbrev pub values_by : Result Line Reason → List ℕ
values_by (Err reason) = []
values_by (Ok line) = if counted line then numbers_of line.parameters line.first line.words else []

-- and the bytes
abbrev pub bytes_by : Result Line Reason → List ℕ
bytes_by (Err reason) = []
bytes_by (Ok line) = if counted line then bytes_in line.parameters line.words else []

unfoldable pub parsed_of : List (List ℕ) → Result Parsed Reason
parsed_of words = parsed_by (line_of words)

unfoldable pub values_of : List (List ℕ) → List ℕ
values_of words = values_by (line_of words)

unfoldable pub bytes_of : List (List ℕ) → List ℕ
bytes_of words = bytes_by (line_of words)

-- "a line longer than 4,096 bytes" is no call; of any other none of the bytes is left out
abbrev pub NoneLeftOut : Type 0
NoneLeftOut = (line : List ℕ) → length line ≤ 4_096 → length (bytes_of (words_of line)) ≤ line_bytes
