-- A run is the calls of the string's records, made one by one.
use Prim.Native.Nat.{ℕ, zero, suc, ◌+◌, ◌≤◌, ◌<◌}
use mathlib.Core.Path.{◌≡◌, refl, ap, ◌∙◌}
use mathlib.Core.Bool.{true, false}
use mathlib.Core.List.{List, [], ◌∷◌}
use native.Mathlib.Omega.{arith}
use lib.Dec.{eqb}
use lib.ListN.{length, take}
use borrow.Author.Tests.{le-ltb, lt-ltb}
use Rattle.rules.specs.Calls.{accepted, state_not_valid, read_answer}
use Rattle.rules.specs.Valid.{valid_of}
use Rattle.rules.specs.Write.{write_of}
use Rattle.rules.specs.WriteWord.{write_word_of}
use Rattle.rules.specs.Read.{read_of}
use Rattle.rules.specs.Tick.{ticks_passed}
use Rattle.rules.specs.Tachometer.{result_of}
use Rattle.rules.specs.Pin.{pin_of}
use Rattle.rules.specs.Pulse.{pulse_of}
use Rattle.rules.specs.Make.{made, made_each, after_each}
use Rattle.rules.specs.declared.Call.TheVariants.{Write, Read, Ticks, Tachometer, Pin, WriteWord, Pulse}
use Rattle.rules.proofs.Tests.{by-test}
use Rattle.strings.specs.Types.{State, Call}
use Rattle.strings.specs.String.{Front, whole, end, refused, front_of}
use Rattle.strings.specs.Run.{answers_too_short, Ran, ran, on_front, run_on, Given, ended, run_of}
use Rattle.strings.proofs.Runs.{on_found}
use Rattle.strings.specs.OneByOne.{Records, onto, records_after, records_in, accepted_first, refusal_first, bytes_of, OneByOne}

-- the calls of records, one after the other, up to the first that is refused
abbrev in_turn : State → Records → Ran
in_turn s r =
    let each = made_each s r.calls in
    let taken = take (accepted_first each) r.calls in
    ran (refusal_first each r.stop) (accepted_first each) (bytes_of taken each) (after_each s taken)

-- a record that is found: its call is accepted, and the rest is as it is, or it is refused
found-in-turn : (n : ℕ) (s : State) (call : Call) (rest : List ℕ) →
    run_on n (made s call).state rest ≡ in_turn (made s call).state (records_in n rest) →
    on_found n s call rest ≡ in_turn s (onto call (records_in n rest))
unfolding made_each after_each accepted_first refusal_first bytes_of
found-in-turn n s call rest same = by-test (eqb (made s call).refusal accepted) (λ h. rw (h, same, one) refl) (λ h. rw h refl)
  where
    one : 1 + accepted_first (made_each (made s call).state (records_in n rest).calls) ≡ suc (accepted_first (made_each (made s call).state (records_in n rest).calls))
    one = omega arith

run-in-turn : (n : ℕ) (s : State) (string : List ℕ) → run_on n s string ≡ in_turn s (records_in n string)
unfolding run_on records_in made_each after_each accepted_first refusal_first bytes_of
run-in-turn zero s string = refl
run-in-turn (suc n) s string = by (λ t rest. run-in-turn n t rest) (front_of string)
  where
    by : ((t : State) (rest : List ℕ) → run_on n t rest ≡ in_turn t (records_in n rest)) → (f : Front) →
        on_front f s (on_found n s) ≡ in_turn s (records_after f string (records_in n))
    by same end = refl
    by same (refused refusal) = refl
    by same (whole call rest) = found-in-turn n s call rest (same (made s call).state rest)

-- ---- a state that is not valid: each call is refused with 1

not-valid-made : (s : State) (call : Call) → valid_of s ≡ false → made s call ≡ read_answer state_not_valid 0 s
unfolding made write_of write_word_of read_of ticks_passed result_of pin_of pulse_of
not-valid-made s (Write address byte) v = rw v refl
not-valid-made s (Read address) v = rw v refl
not-valid-made s (Ticks n) v = rw v refl
not-valid-made s (Tachometer channel count) v = rw v refl
not-valid-made s (Pin high) v = rw v refl
not-valid-made s (WriteWord address word) v = rw v refl
not-valid-made s (Pulse channel) v = rw v refl

none-accepted : (s : State) (calls : List Call) → valid_of s ≡ false → accepted_first (made_each s calls) ≡ 0
unfolding made_each accepted_first
none-accepted s [] v = refl
none-accepted s (call ∷ calls) v = rw (not-valid-made s call v) refl

-- ---- the call

module _ (s : State) (string : List ℕ) (allowance : ℕ) (buffer : List ℕ) where
  pub runs : valid_of s ≡ true → length string ≤ length buffer → run_of s string allowance buffer ≡ ended (run_on allowance s string) buffer
  unfolding run_of
  runs v room = rw (v, le-ltb (length buffer) (length string) room) refl

  pub runs-not-valid : valid_of s ≡ false → run_of s string allowance buffer ≡ ended (ran state_not_valid 0 [] s) buffer
  unfolding run_of
  runs-not-valid v = rw v refl

  pub runs-too-short : valid_of s ≡ true → length buffer < length string → run_of s string allowance buffer ≡ ended (ran answers_too_short 0 [] s) buffer
  unfolding run_of
  runs-too-short v short = rw (v, lt-ltb (length buffer) (length string) short) refl

  pub one_by_one : length string ≤ length buffer → OneByOne s string allowance buffer
  unfolding bytes_of after_each
  one_by_one room = by-test (valid_of s) good bad
    where
      good : valid_of s ≡ true → OneByOne s string allowance buffer
      good v =
          let e = runs v room ∙ ap (λ (x : Ran). ended x buffer) (run-in-turn allowance s string) in
          record {
            refusal = rw v (ap (λ (g : Given). g.answer.refusal) e);
            taken = ap (λ (g : Given). g.answer.taken) e;
            answered = ap (λ (g : Given). g.answer.answered) e;
            state = ap (λ (g : Given). g.answer.state) e;
            answers = rw e refl;
          }

      bad : valid_of s ≡ false → OneByOne s string allowance buffer
      bad v =
          let none = none-accepted s (records_in allowance string).calls v in
          record {
            refusal = rw (v, runs-not-valid v) refl;
            taken = rw (none, runs-not-valid v) refl;
            answered = rw (none, runs-not-valid v) refl;
            state = rw (none, runs-not-valid v) refl;
            answers = rw (none, runs-not-valid v) refl;
          }
