-- What the galley's lines make of what is in hand, and what they print.
use Rattle.std.specs.Prelude.{ℕ, ◌+◌, List, [], ◌∷◌, ◌++◌, Float, eqb, take, drop}
use Rattle.rules.specs.Basics.{flag}
use Rattle.galley_rules.specs.declared.Galley.{Galley}
use Rattle.galley_rules.specs.Types.{GalleyAnswer}
use Rattle.galley_rules.specs.Types.{SampleAnswer}
use Rattle.galley_rules.specs.Types.{DegreesAnswer}
use Rattle.galley_rules.specs.Galley.{galley, fresh_of}
use Rattle.galley_rules.specs.Sample.{sample_of}
use Rattle.galley_rules.specs.Span.{span_refusal, span_rows}
use Rattle.lent.specs.Values.{number, byte_of}
use Rattle.console_text.specs.Decimal.{decimal_of}
use Rattle.console_text.specs.Fraction.{eighths_text}
use Rattle.console_text.specs.Signed.{integer_of, short_of, bits_of}
use Rattle.console_outcome.specs.declared.hand.Hand.{Hand}
use Rattle.console_outcome.specs.Outcome.{with_state, with_galley, Told, tells, tells_signed, tells_bytes}

-- "`gfresh HIGH OVER HYSTERESIS QUIET`": "Thresholds are signed; HYSTERESIS (0: 2 degrees, 1: 4) and QUIET are 0 or 1"
abbrev pub fresh_by : List ℕ → GalleyAnswer
fresh_by v = fresh_of (integer_of (number v 0)) (integer_of (number v 1)) (eqb (number v 2) 1) (eqb (number v 3) 1)

abbrev pub fresh_told : Hand → List ℕ → Told
fresh_told hand v = let a = fresh_by v in tells (with_galley hand a.galley) (a.refusal ∷ [])

-- "TABLES are two parameters of bytes, the normal and the quiet table": by how many bytes each of them has
abbrev pub normal_by : ℕ → List ℕ → List ℕ
normal_by normal bytes = take normal bytes

abbrev pub quiet_by : ℕ → ℕ → List ℕ → List ℕ
quiet_by normal quiet bytes = take quiet (drop normal bytes)

-- "`gsample T TABLES`": "T is signed"; "refusal, ALERT, SHDN (0 or 1)"; "Both states in hand are the ones given back"
abbrev pub sample_by : Hand → List ℕ → List ℕ → SampleAnswer
sample_by hand v bytes =
    sample_of hand.galley hand.state (integer_of (number v 0)) (normal_by (number v 1) bytes) (quiet_by (number v 1) (number v 2) bytes)

abbrev pub sample_told : Hand → List ℕ → List ℕ → Told
sample_told hand v bytes =
    let a = sample_by hand v bytes in
    tells (with_galley (with_state hand a.state) a.galley) (a.refusal ∷ flag a.alert ∷ flag a.shutdown ∷ [])

-- "`gspan FIRST END TABLES`": "refusal, the part as bytes"
abbrev pub span_told : Hand → ℕ → ℕ → List ℕ → List ℕ → Told
span_told hand first end normal quiet =
    let g = hand.galley in
    tells_bytes hand (span_refusal g first end normal quiet ∷ []) (span_rows g first end normal quiet)

abbrev pub span_by : Hand → List ℕ → List ℕ → Told
span_by hand v bytes = span_told hand (number v 0) (number v 1) (normal_by (number v 2) bytes) (quiet_by (number v 2) (number v 3) bytes)

-- "row, temperature, high, over, hysteresis, quiet"
abbrev pub dump_told : Hand → Told
dump_told hand =
    let g = hand.galley in
    tells_signed hand (g.row ∷ bits_of g.temperature ∷ bits_of g.high ∷ bits_of g.over ∷ flag g.hysteresis ∷ flag g.quiet ∷ [])

-- "`gload NUMBERS`": "those six numbers, as far as the state can hold them (row 0 to 255, the next three signed 16 bits, the last two 0
-- or 1)"
abbrev pub galley_from : List ℕ → Galley
galley_from v =
    galley (byte_of (number v 0)) (short_of (number v 1)) (short_of (number v 2)) (short_of (number v 3)) (eqb (number v 4) 1) (eqb (number v 5) 1)

abbrev pub load_told : Hand → List ℕ → Told
load_told hand v = tells (with_galley hand (galley_from v)) []

-- `gread`: "refusal, degrees with exactly three decimals", and how long that is at most
unfoldable pub degrees_text : ℕ → Float → List ℕ
degrees_text refusal x = decimal_of refusal ++ (32 ∷ (eighths_text x ++ (10 ∷ [])))

abbrev pub degrees_line : DegreesAnswer → List ℕ
degrees_line a = degrees_text a.refusal a.degrees

-- ten digits, a space, a sign, ten digits, a point, three decimals, and a line feed
abbrev pub degrees_most : ℕ
degrees_most = 10 + 1 + 22 + 1
