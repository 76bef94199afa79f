-- `cabin` and `speed`, whose answers have more than numbers, and how long they are at most.
use Rattle.std.specs.Prelude.{ℕ, ◌+◌, ◌*◌, false, List, [], ◌∷◌, ◌++◌, Float, None, Result, Ok, Err}
use Rattle.rules.specs.declared.refusal.Refusal.{Refusal}
use Rattle.rules.specs.declared.Reading.{Reading}
use Rattle.rules.specs.declared.Speed.{Speed}
use Rattle.rules.specs.declared.Speed.TheVariants.{Rpm, Stopped, TooFast}
use Rattle.rules.specs.Types.{ReadingAnswer}
use Rattle.rules.specs.Speed.{speed_of, speed_refusal, speed_value}
use Rattle.lent.specs.Values.{number}
use Rattle.console_text.specs.Ascii.{ascii}
use Rattle.console_text.specs.Decimal.{decimal_of}
use Rattle.console_text.specs.Fraction.{parts_of, nine_decimals}
use Rattle.console_outcome.specs.Outcome.{line_by}

-- "each with exactly nine decimals"; each after a space
unfoldable pub spaced_parts : List Float → List ℕ
spaced_parts [] = []
spaced_parts (x ∷ parts) = 32 ∷ (nine_decimals (parts_of x) ++ spaced_parts parts)

-- "refusal, seconds, six shares, printed from the f64s that the call gave": seven times a space, ten digits, a point and nine
-- decimals; before them ten digits, and after them a line feed
abbrev pub reading_text : Reading → List ℕ
reading_text r = spaced_parts (r.seconds ∷ r.shares)

abbrev pub reading_most : ℕ
reading_most = 7 * 21

unfoldable pub cabin_text : ℕ → Reading → List ℕ
cabin_text refusal r = decimal_of refusal ++ (reading_text r ++ (10 ∷ []))

abbrev pub cabin_line : ReadingAnswer → List ℕ
cabin_line a = cabin_text a.refusal a.reading

abbrev pub cabin_most : ℕ
cabin_most = 10 + reading_most + 1

-- "`speed RANGE PULSES COUNT`"
abbrev pub speed_by : List ℕ → Result Speed Refusal
speed_by v = speed_of (number v 0) (number v 1) (number v 2)

-- "refusal, speed"
abbrev speed_numbers : Result Speed Refusal → List ℕ
speed_numbers answer = line_by false (speed_refusal answer ∷ speed_value answer ∷ []) None

-- K2: "`speed` answers refusal and speed as before, or `0 stopped`, or `0 too fast`"
unfoldable pub speed_line : Result Speed Refusal → List ℕ
speed_line (Ok (Rpm speed)) = speed_numbers (Ok (Rpm speed))
speed_line (Ok Stopped) = ascii "0 stopped\n"
speed_line (Ok TooFast) = ascii "0 too fast\n"
speed_line (Err refusal) = speed_numbers (Err refusal)

-- two numbers, each with a byte before or after it, and a line feed
abbrev pub speed_most : ℕ
speed_most = 2 * 12 + 3
