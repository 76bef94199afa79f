-- A run of an order string: "A run takes at most the number of records its caller allows and reports how many it took".
use Rattle.std.specs.Prelude.{ℕ, zero, suc, ◌+◌, Bool, true, false, not, List, [], ◌∷◌, ◌++◌, length, drop, ltb, eqb, if◌then◌else◌}
use Rattle.rules.specs.Calls.{accepted, state_not_valid}
use Rattle.rules.specs.Valid.{valid_of}
use Rattle.rules.specs.Make.{made}
pub use Rattle.rules.specs.Make.{is_read}
use Rattle.strings.specs.String.{Front, whole, end, refused, front_of}
use Rattle.strings.specs.Types.{State, ReadAnswer, Call, RunAnswer}

-- "15 answer buffer shorter than the string, nothing done"
abbrev pub answers_too_short : ℕ
answers_too_short = 15

-- ---- record by record

-- where a run stops: the refusal, the records taken, their answer bytes, and the state
pub record Ran : Type 0 where
  pub refusal : ℕ
  pub taken : ℕ
  pub answers : List ℕ
  pub state : State

abbrev pub ran : ℕ → ℕ → List ℕ → State → Ran
ran refusal taken answers s = record { refusal = refusal; taken = taken; answers = answers; state = s }

-- a run that goes on after so many records and their answers
abbrev pub after : ℕ → List ℕ → Ran → Ran
after taken answers r = ran r.refusal (taken + r.taken) (answers ++ r.answers) r.state

-- the answer bytes of a call that was accepted
abbrev pub answer_bytes : Call → ReadAnswer → List ℕ
answer_bytes call a = if is_read call then a.byte ∷ [] else []

-- "It stops before the first record that is malformed or that its call refuses": the state, answers and count "are those before
-- that record". Where the string has ended it stops unrefused
abbrev pub on_front : Front → State → (Call → List ℕ → Ran) → Ran
on_front end s on = ran accepted 0 [] s
on_front (refused refusal) s on = ran refusal 0 [] s
on_front (whole call rest) s on = on call rest

-- "with the allowance used up it stops unrefused and looks no further"; "taking them in one run equals making the calls one by one"
unfoldable pub run_on : ℕ → State → List ℕ → Ran
run_on zero s string = ran accepted 0 [] s
run_on (suc allowance) s string =
    on_front (front_of string) s (λ call rest.
    let a = made s call in
    if eqb a.refusal accepted then after 1 (answer_bytes call a) (run_on allowance a.state rest)
    else ran a.refusal 0 [] s)

-- ---- the call

-- what a run gives back, and the answer buffer as it is then
pub record Given : Type 0 where
  pub answer : RunAnswer
  pub buffer : List ℕ

abbrev pub given : RunAnswer → List ℕ → Given
given answer buffer = record { answer = answer; buffer = buffer }

-- "Read bytes go in order into a lent answer buffer, whose later bytes stay"
abbrev pub ended : Ran → List ℕ → Given
ended r buffer =
    given (record { refusal = r.refusal; taken = r.taken; answered = length r.answers; state = r.state })
    (r.answers ++ drop (length r.answers) buffer)

-- "Refusals: 1; 15 answer buffer shorter than the string, nothing done"; then record by record
unfoldable pub run_of : State → List ℕ → ℕ → List ℕ → Given
run_of s string allowance buffer =
    if not (valid_of s) then ended (ran state_not_valid 0 [] s) buffer
    else if ltb (length buffer) (length string) then ended (ran answers_too_short 0 [] s) buffer
    else ended (run_on allowance s string) buffer
