-- How the source reads a line: its first word, and by what the words after a command are taken.
use Rattle.std.specs.Prelude.{ℕ, List, [], ◌∷◌, Option, Some, None, Result, Ok, Err}
use denote.Ref.{Bor}
use Rattle.console_text.specs.Words.{words_of}
use Rattle.strings.specs.declared.kind.Kind.{Kind}
use Rattle.console_table.specs.declared.Asks.{Asks}
use Rattle.console_table.specs.declared.Asks.TheVariants.{For, Record}
use Rattle.console_table.specs.declared.Request.TheVariants.{Call, Verb, View}
use Rattle.console_table.specs.Rows.{parameters_in}
use Rattle.console_commands.specs.declared.reading.Reading.{Reading}
use Rattle.console_commands.specs.declared.Reason.{Reason}
use Rattle.console_commands.specs.Commands.{Line}

-- the first word and those after it
abbrev pub words_split : Option (Bor (List ℕ) × Bor (List ℕ)) → List (List ℕ)
words_split None = []
words_split (Some (word, rest)) = word.now ∷ words_of rest.now

-- the kind of the call that a row asks for
abbrev pub kind_in : Asks → Option Kind
kind_in (For (Call kind)) = Some kind
kind_in (For (Verb verb)) = None
kind_in (For (View view)) = None
kind_in Record = None

abbrev pub line_in : Reading → Line
line_in reading =
    record {
      place = reading.place;
      parsed = reading.parsed;
      parameters = parameters_in reading.parameters;
      first = reading.first;
      words = words_of reading.words.now;
    }

abbrev pub read_by : Result Reading Reason → Result Line Reason
read_by (Ok reading) = Ok (line_in reading)
read_by (Err reason) = Err reason
