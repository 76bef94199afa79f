-- The galley's state, and a fresh one.
use Rattle.std.specs.Prelude.{ℕ, Bool, false, ◌&&◌, leb, ℤ, pos, if◌then◌else◌}
use Rattle.rules.specs.Calls.{accepted}
use Rattle.galley_rules.specs.Types.{Galley, GalleyAnswer}
use Rattle.galley_rules.specs.Temperature.{in_range}

-- "22 temperature out of range"
abbrev pub temperature_out_of_range : ℕ
temperature_out_of_range = 22

abbrev pub galley : ℕ → ℤ → ℤ → ℤ → Bool → Bool → Galley
galley row temperature high over hysteresis quiet =
    record { row = row; temperature = temperature; high = high; over = over; hysteresis = hysteresis; quiet = quiet }

-- what a sample changes of it
abbrev pub with_sample : Galley → ℕ → ℤ → Galley
with_sample g row temperature = galley row temperature g.high g.over g.hysteresis g.quiet

-- "h is 16 or 32 eighths", by the hysteresis bit
abbrev pub eighths_of : Bool → ℕ
eighths_of hysteresis = if hysteresis then 32 else 16

-- "A galley state is sound when its row is at most 47 and its temperature and thresholds are in range"
unfoldable pub valid_galley : Galley → Bool
valid_galley g = leb g.row 47 && in_range g.temperature && in_range g.high && in_range g.over

abbrev pub galley_answer : ℕ → Galley → GalleyAnswer
galley_answer refusal g = record { refusal = refusal; galley = g }

-- "every number 0, every flag clear"
abbrev pub zero_galley : Galley
zero_galley = galley 0 (pos 0) (pos 0) (pos 0) false false

-- "A fresh galley has row 0 and temperature 0, and is given its two thresholds, hysteresis bit and flag; one with a threshold out
-- of range is refused with 22 and every number 0, every flag clear"
unfoldable pub fresh_of : ℤ → ℤ → Bool → Bool → GalleyAnswer
fresh_of high over hysteresis quiet =
    if in_range high && in_range over then galley_answer accepted (galley 0 (pos 0) high over hysteresis quiet)
    else galley_answer temperature_out_of_range zero_galley
