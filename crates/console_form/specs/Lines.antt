-- Lines that more than one command answers with.
use Rattle.std.specs.Prelude.{ℕ, Bool, List, ◌++◌, if◌then◌else◌}
use Rattle.console_text.specs.Ascii.{ascii}
use Rattle.console_text.specs.Fraction.{nine_decimals}

-- whether a state is valid
abbrev pub valid_line : Bool → List ℕ
valid_line valid = if valid then ascii "state     valid\n" else ascii "state     not valid: calls refuse it with 1\n"

-- a number of ticks in seconds, after a name
abbrev pub seconds_line : List ℕ → ℕ → List ℕ
seconds_line name ticks = name ++ nine_decimals ticks ++ ascii " s\n"
