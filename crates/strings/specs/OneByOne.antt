-- What is demanded of a run: nobody can tell it from making the calls one by one.
use Rattle.std.specs.Prelude.{ℕ, zero, suc, ◌+◌, ◌≤◌, ◌<◌, ◌≡◌, true, false, List, [], ◌∷◌, ◌++◌, length, take, drop, eqb, if◌then◌else◌}
use Rattle.rules.specs.Calls.{accepted, state_not_valid}
use Rattle.rules.specs.Valid.{valid_of}
use Rattle.rules.specs.Make.{made_each, after_each}
use Rattle.strings.specs.String.{Front, whole, end, refused, front_of}
use Rattle.strings.specs.Types.{State, ReadAnswer, Call}
use Rattle.strings.specs.Run.{answers_too_short, answer_bytes, ran, Given, given, ended, run_of}

-- ---- the records of a string

-- the calls of the records that a string begins with, at most so many, up to the first malformed one; why there are no more, 0 where
-- there are so many or the string ends; and the string after them
pub record Records : Type 0 where
  pub calls : List Call
  pub stop : ℕ
  pub rest : List ℕ

abbrev pub records : List Call → ℕ → List ℕ → Records
records calls stop rest = record { calls = calls; stop = stop; rest = rest }

abbrev pub onto : Call → Records → Records
onto call r = records (call ∷ r.calls) r.stop r.rest

abbrev pub records_after : Front → List ℕ → (List ℕ → Records) → Records
records_after end string on = records [] accepted string
records_after (refused refusal) string on = records [] refusal string
records_after (whole call rest) string on = onto call (on rest)

unfoldable pub records_in : ℕ → List ℕ → Records
records_in zero string = records [] accepted string
records_in (suc most) string = records_after (front_of string) string (λ rest. records_in most rest)

-- ---- their calls, made one by one

-- how many are accepted before the first that is refused; the refusal of that one, or of what comes after them all
unfoldable pub accepted_first : List ReadAnswer → ℕ
accepted_first [] = 0
accepted_first (a ∷ answers) = if eqb a.refusal accepted then suc (accepted_first answers) else 0

unfoldable pub refusal_first : List ReadAnswer → ℕ → ℕ
refusal_first [] stop = stop
refusal_first (a ∷ answers) stop = if eqb a.refusal accepted then refusal_first answers stop else a.refusal

-- the answer bytes of calls
unfoldable pub bytes_of : List Call → List ReadAnswer → List ℕ
bytes_of [] answers = []
bytes_of (call ∷ calls) [] = []
bytes_of (call ∷ calls) (a ∷ answers) = answer_bytes call a ++ bytes_of calls answers

-- a run as it is, but for its refusal
abbrev pub unrefused : Given → Given
unrefused g =
    let a = g.answer in
    given (record { refusal = accepted; taken = a.taken; answered = a.answered; state = a.state }) g.buffer

module _ (s : State) (string : List ℕ) (allowance : ℕ) (buffer : List ℕ) where
  -- the run; the calls of the string's records; what they answer, made one after the other
  abbrev pub in_one_run : Given
  in_one_run = run_of s string allowance buffer

  abbrev pub its_calls : List Call
  its_calls = (records_in allowance string).calls

  abbrev pub each : List ReadAnswer
  each = made_each s its_calls

  -- "taking them in one run equals making the calls one by one": where the buffer has room, up to the allowance, the first malformed
  -- record, or the first that its call refuses. A state that is not valid is refused before the string is looked at
  pub record OneByOne : Type 0 where
    pub refusal : in_one_run.answer.refusal ≡ (if valid_of s then refusal_first each (records_in allowance string).stop else state_not_valid)
    pub taken : in_one_run.answer.taken ≡ accepted_first each
    pub answered : in_one_run.answer.answered ≡ length (bytes_of (take (accepted_first each) its_calls) each)
    pub state : in_one_run.answer.state ≡ after_each s (take (accepted_first each) its_calls)
    pub answers : in_one_run.buffer ≡ bytes_of (take (accepted_first each) its_calls) each ++ drop in_one_run.answer.answered buffer

  -- demand 1, as it reads for a run: "State, answers and count are those before that record"
  pub record KeepsRun : Type 0 where
    -- refused with 1 or 15, it has done nothing
    pub not_valid : valid_of s ≡ false → in_one_run ≡ ended (ran state_not_valid 0 [] s) buffer
    pub too_short : valid_of s ≡ true → length buffer < length string → in_one_run ≡ ended (ran answers_too_short 0 [] s) buffer
    -- else it leaves what a run leaves, unrefused, that is allowed no more records than it took
    pub before : valid_of s ≡ true → length string ≤ length buffer → run_of s string in_one_run.answer.taken buffer ≡ unrefused in_one_run
    -- "All given-back states after sound ones are sound"
    pub valid : valid_of s ≡ true → valid_of in_one_run.answer.state ≡ true
    -- never more answer bytes than bytes of the string that were read, which is why a buffer as long as the string suffices
    pub few : in_one_run.answer.answered + length (records_in in_one_run.answer.taken string).rest ≤ length string

-- ---- a run in parts

-- a run, and then one on the rest of the string with the rest of the buffer, so that its answers follow
abbrev pub joined : Given → Given → Given
joined x y =
    let a = x.answer in
    let b = y.answer in
    given (record { refusal = b.refusal; taken = a.taken + b.taken; answered = a.answered + b.answered; state = b.state })
    (take a.answered x.buffer ++ y.buffer)

abbrev pub on_the_rest : Given → List ℕ → ℕ → Given
on_the_rest x string allowance =
    let a = x.answer in
    run_of a.state (records_in a.taken string).rest allowance (drop a.answered x.buffer)

-- a run of a + b records is one of a, where that is not refused, and then one of b
abbrev pub InParts : State → List ℕ → ℕ → ℕ → List ℕ → Type 0
InParts s string a b buffer =
    let x = run_of s string a buffer in
    x.answer.refusal ≡ accepted → run_of s string (a + b) buffer ≡ joined x (on_the_rest x string b)
