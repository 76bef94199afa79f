-- What the code gives of a galley's calls, by the paper's numbers.
use Rattle.std.specs.Prelude.{ℕ, false, Float, pos, Result, Ok, Err}
use Rattle.rules.specs.Calls.{accepted, state_not_valid}
use Rattle.galley_rules.specs.Types.{State, Galley, Sample, GalleyRefusal, GalleyAnswer, SampleAnswer, DegreesAnswer}
use Rattle.galley_rules.specs.declared.refusal.GalleyRefusal.TheVariants.{StateNotValid, NoTable, RowsOutside, TemperatureOutOfRange}
use Rattle.galley_rules.specs.Galley.{temperature_out_of_range, zero_galley, galley_answer}
use Rattle.galley_rules.specs.Table.{no_table}
use Rattle.galley_rules.specs.Sample.{sample_answer}
use Rattle.galley_rules.specs.Span.{rows_outside}
use Rattle.galley_rules.specs.Degrees.{over8}

-- the number of each refusal
abbrev pub galley_number : GalleyRefusal → ℕ
galley_number StateNotValid = state_not_valid
galley_number NoTable = no_table
galley_number RowsOutside = rows_outside
galley_number TemperatureOutOfRange = temperature_out_of_range

-- a fresh galley: refused, "every number 0, every flag clear"
abbrev pub fresh_by : Result Galley GalleyRefusal → GalleyAnswer
fresh_by (Ok g) = galley_answer accepted g
fresh_by (Err refusal) = galley_answer (galley_number refusal) zero_galley

-- a sample: refused, "both states as given"
abbrev pub sample_by : Galley → State → Result Sample GalleyRefusal → SampleAnswer
sample_by g s (Ok sample) = sample_answer accepted sample.alert sample.shutdown sample.galley sample.state
sample_by g s (Err refusal) = sample_answer (galley_number refusal) false false g s

-- a reading: "a refused reading is 0"
abbrev pub degrees_by : Galley → Result Float GalleyRefusal → DegreesAnswer
degrees_by g (Ok degrees) = record { refusal = accepted; degrees = degrees; galley = g }
degrees_by g (Err refusal) = record { refusal = galley_number refusal; degrees = over8 (pos 0); galley = g }
