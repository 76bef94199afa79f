-- The table of the commands: "| Line | Answer |".
use Rattle.std.specs.Prelude.{ℕ, ◌+◌, false, List, [], ◌∷◌, ◌++◌, map, get_or, take, bytes_eq, if◌then◌else◌, Option, Some, None}
use Prim.Native.String.{String}
use Rattle.console_text.specs.Ascii.{ascii}
use Rattle.console_text.specs.Words.{run_of}
use Rattle.strings.specs.declared.kind.Kind.TheVariants as kind
use Rattle.console_table.specs.declared.Verb.TheVariants as verb
use Rattle.console_table.specs.declared.View.TheVariants as view
use Rattle.console_table.specs.declared.Request.TheVariants.{Call, Verb, View}
use Rattle.console_table.specs.declared.Asks.{Asks}
use Rattle.console_table.specs.declared.Asks.TheVariants.{For, Record}
use Rattle.console_table.specs.declared.Parameter.{Parameter}
use Rattle.console_table.specs.declared.Parameter.TheVariants.{Number, Signed, Bytes}
use Rattle.numbers.specs.Numbers.{limits}

-- a line of the table: how it is written, what it asks for, and the parameters that follow
pub record Row : Type 0 where
  pub usage : List ℕ
  pub asks : Asks
  pub parameters : List Parameter

abbrev row : String → Asks → List Parameter → Row
row usage asks parameters = record { usage = ascii usage; asks = asks; parameters = parameters }

-- "from 0 to 4,294,967,295"
abbrev pub largest : ℕ
largest = 4_294_967_295

abbrev pub any : Parameter
any = Number largest

-- "-2,147,483,648 to 2,147,483,647"; "signed 16 bits"
abbrev pub any_signed : Parameter
any_signed = Signed 2_147_483_647

abbrev pub signed16 : Parameter
signed16 = Signed 32_767

-- the numbers of a state, each up to what the state can hold
unfoldable pub state_numbers : List Parameter
state_numbers = map (λ most. Number most) limits

-- the calls that start the device and access its registers
abbrev pub access_rows : List Row
access_rows =
    row "start WATCHDOG SPINUP TARGET FREQUENCY MODIFICATION" (For (Verb verb.Start)) (any ∷ any ∷ any ∷ Number 255 ∷ any ∷ [])
    ∷ row "write ADDRESS BYTE" (For (Call kind.Write)) (any ∷ Number 255 ∷ [])
    ∷ row "word ADDRESS WORD" (For (Call kind.WriteWord)) (any ∷ Number 65_535 ∷ [])
    ∷ row "read ADDRESS" (For (Call kind.Read)) (any ∷ [])
    ∷ []

-- the calls that tell what happens to it
abbrev pub event_rows : List Row
event_rows =
    row "ticks N" (For (Call kind.Ticks)) (any ∷ [])
    ∷ row "tach CHANNEL COUNT" (For (Call kind.Tachometer)) (any ∷ any ∷ [])
    ∷ row "pulse CHANNEL" (For (Call kind.Pulse)) (any ∷ [])
    ∷ row "pin LEVEL" (For (Call kind.Pin)) (Number 1 ∷ [])
    ∷ []

-- what is asked of a state
abbrev pub state_rows : List Row
state_rows =
    row "cabin" (For (View view.Cabin)) []
    ∷ row "fanfail" (For (Verb verb.FanFail)) []
    ∷ row "speed RANGE PULSES COUNT" (For (View view.Speed)) (any ∷ any ∷ any ∷ [])
    ∷ row "dump" (For (Verb verb.Dump)) []
    ∷ row "load NUMBERS" (For (Verb verb.Load)) state_numbers
    ∷ row "show" (For (View view.Show)) []
    ∷ row "chart TICKS" (For (View view.Chart)) (any ∷ [])
    ∷ []

-- order strings. After `encode` a call follows, with the words that it has
abbrev pub string_rows : List Row
string_rows =
    row "run STRING ALLOWANCE ROOM" (For (Verb verb.Run)) (Bytes ∷ any ∷ Number 2_048 ∷ [])
    ∷ row "encode CALL" Record []
    ∷ row "decode STRING" (For (View view.Decode)) (Bytes ∷ [])
    ∷ []

-- the galley, and help. "TABLES are two parameters of bytes, the normal and the quiet table"; the numbers of `gload`: "row 0 to 255, the
-- next three signed 16 bits, the last two 0 or 1"
abbrev pub galley_rows : List Row
galley_rows =
    row "gfresh HIGH OVER HYSTERESIS QUIET" (For (Verb verb.GalleyFresh)) (any_signed ∷ any_signed ∷ Number 1 ∷ Number 1 ∷ [])
    ∷ row "gsample T NORMAL QUIET" (For (Verb verb.GalleySample)) (any_signed ∷ Bytes ∷ Bytes ∷ [])
    ∷ row "gspan FIRST END NORMAL QUIET" (For (Verb verb.GalleySpan)) (any ∷ any ∷ Bytes ∷ Bytes ∷ [])
    ∷ row "gread" (For (View view.GalleyRead)) []
    ∷ row "gdump" (For (Verb verb.GalleyDump)) []
    ∷ row "gload NUMBERS" (For (Verb verb.GalleyLoad)) (Number 255 ∷ signed16 ∷ signed16 ∷ signed16 ∷ Number 1 ∷ Number 1 ∷ [])
    ∷ row "gshow" (For (View view.GalleyShow)) []
    ∷ row "help" (For (View view.Help)) []
    ∷ []

unfoldable pub commands : List Row
commands = access_rows ++ (event_rows ++ (state_rows ++ (string_rows ++ galley_rows)))

-- the word that a command begins with
abbrev pub name_of : Row → List ℕ
name_of row = take (run_of false row.usage) row.usage

-- the row that a word names, and its place in the table
pub record Named : Type 0 where
  pub place : ℕ
  pub row : Row

abbrev pub known : ℕ → Row → Option Named
known i row = Some (record { place = i; row = row })

unfoldable pub named_among : List Row → ℕ → List ℕ → Option Named
named_among [] i word = None
named_among (row ∷ rows) i word = if bytes_eq word (name_of row) then known i row else named_among rows (i + 1) word

unfoldable pub named_by : List ℕ → Option Named
named_by word = named_among commands 0 word

-- how the command at a place is written
unfoldable pub usage_at : ℕ → List ℕ
usage_at i = get_or (map (λ row. row.usage) commands) i []
