-- What the code gives of a string and of a run, by the paper's numbers.
use Rattle.std.specs.Prelude.{ℕ, Option, None, Some, Result, Ok, Err}
use Rattle.rules.specs.Calls.{accepted, number_of}
use Rattle.strings.specs.Types.{Group, Step, Found, RunAnswer}
use Rattle.strings.specs.Group as group
use Rattle.strings.specs.Step as step
use Rattle.strings.specs.Found as found
use Rattle.strings.specs.declared.Group.{Group as GroupRead}
use Rattle.strings.specs.declared.Group.TheVariants as group_read
use Rattle.strings.specs.declared.Step.{Step as StepRead}
use Rattle.strings.specs.declared.Step.TheVariants as step_read
use Rattle.strings.specs.declared.Found.{Found as RecordFound}
use Rattle.strings.specs.declared.RunAnswer.{RunAnswer as RunGiven}
use Rattle.strings.specs.declared.refusal.StringRefusal.{StringRefusal}
use Rattle.strings.specs.declared.refusal.StringRefusal.TheVariants.{StringEnds, LongForm, NumberTooLarge, NoRecord}
use Rattle.strings.specs.declared.refusal.RunRefusal.{RunRefusal}
use Rattle.strings.specs.declared.refusal.RunRefusal.TheVariants as run
use Rattle.strings.specs.Number.{string_ends, long_form, number_too_large}
use Rattle.strings.specs.Record.{no_record}
use Rattle.strings.specs.Run.{answers_too_short}

-- the number of each refusal
abbrev pub string_number : StringRefusal → ℕ
string_number StringEnds = string_ends
string_number LongForm = long_form
string_number NumberTooLarge = number_too_large
string_number NoRecord = no_record

abbrev pub run_number : RunRefusal → ℕ
run_number (run.Call refusal) = number_of refusal
run_number (run.String refusal) = string_number refusal
run_number run.AnswersTooShort = answers_too_short

-- what a byte makes of a number, and of a record
abbrev pub group_by : Result GroupRead StringRefusal → Group
group_by (Ok (group_read.More value)) = group.More value
group_by (Ok (group_read.Last number)) = group.Last number
group_by (Err refusal) = group.Refused (string_number refusal)

abbrev pub step_by : Result StepRead StringRefusal → Step
step_by (Ok (step_read.More partial)) = step.More partial
step_by (Ok (step_read.Whole call)) = step.Whole call
step_by (Err refusal) = step.Refused (string_number refusal)

-- what stands at an index
abbrev pub found_by : Result (Option RecordFound) StringRefusal → Found
found_by (Ok None) = found.End
found_by (Ok (Some one)) = found.Record one.call one.next
found_by (Err refusal) = found.Refused (string_number refusal)

-- why a run stopped, 0 where nothing stopped it; and all that it gives
abbrev pub outcome_number : Result (Unit {0}) RunRefusal → ℕ
outcome_number (Ok done) = accepted
outcome_number (Err refusal) = run_number refusal

abbrev pub run_by : RunGiven → RunAnswer
run_by given = record { refusal = outcome_number given.outcome; taken = given.taken; answered = given.answered; state = given.state }
