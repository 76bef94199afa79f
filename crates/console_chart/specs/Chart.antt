-- `chart TICKS`: "how the duties go over the next TICKS ticks if nothing is sent".
use Rattle.std.specs.Prelude.{ℕ, zero, suc, ◌+◌, ◌-◌, ◌*◌, ◌/◌, min, List, [], ◌∷◌, ◌++◌, eqb, if◌then◌else◌}
use Rattle.rules.specs.declared.State.{State}
use Rattle.rules.specs.State.{channel}
use Rattle.rules.specs.Duty.{conditions_of, output_duty}
use Rattle.rules.specs.Valid.{valid_of}
use Rattle.rules.specs.Tick.{ticks_passed}
use Rattle.console_text.specs.Ascii.{ascii}
use Rattle.console_text.specs.Decimal.{decimal_of, padded}
use Rattle.console_text.specs.Fraction.{nine_decimals}

-- the output duty of a channel, counted from 0, after so many ticks
unfoldable pub duty_after : State → ℕ → ℕ → ℕ
duty_after s i ticks =
    let after = (ticks_passed s ticks).state in
    output_duty (conditions_of after) (channel after i)

-- the texts of so many numbers, from one on
unfoldable pub texts_from : (ℕ → List ℕ) → ℕ → ℕ → List ℕ
texts_from text n zero = []
texts_from text n (suc more) = text n ++ texts_from text (n + 1) more

-- "as a space for 0, and for 1 to 511 as the block character U+2581 + floor(duty / 64), in UTF-8". No valid state has a duty above
unfoldable pub block_of : ℕ → List ℕ
block_of duty = if eqb duty 0 then 0x20 ∷ [] else 0xE2 ∷ 0x96 ∷ (0x81 + min (duty / 64) 7) ∷ []

-- "Column c (1 to 64) shows the output duty after floor(TICKS x c / 64) ticks"
abbrev pub ticks_at : ℕ → ℕ → ℕ
ticks_at ticks column = ticks * column / 64

abbrev pub column_of : State → ℕ → ℕ → ℕ → List ℕ
column_of s i ticks column = block_of (duty_after s i (ticks_at ticks column))

-- "64 columns"
abbrev pub columns_of : State → ℕ → ℕ → List ℕ
columns_of s i ticks = texts_from (column_of s i ticks) 1 64

-- "First a line with the time that the chart spans, in seconds"
unfoldable pub time_line : ℕ → List ℕ
time_line ticks = ascii "span      " ++ nine_decimals ticks ++ ascii " s\n"

-- "then a line a channel: its number, the duty now, 64 columns, the duty at the end"
unfoldable pub line_of : State → ℕ → ℕ → List ℕ
line_of s ticks number =
    let i = number - 1 in
    decimal_of number ++ 32 ∷ padded 3 (duty_after s i 0) ++ 32 ∷ columns_of s i ticks ++ 32 ∷ padded 3 (duty_after s i ticks) ++ 10 ∷ []

-- "A state that is not valid answers one line that says so"
unfoldable pub chart_of : State → ℕ → List ℕ
chart_of s ticks =
    if valid_of s then time_line ticks ++ texts_from (line_of s ticks) 1 6
    else ascii "state     not valid: calls refuse it with 1\n"

-- the first line is 13 bytes and twenty for its number; each of the six has 192 bytes for its columns, three numbers of ten, three
-- spaces and a line feed
abbrev pub chart_most : ℕ
chart_most = 33 + 6 * 226
