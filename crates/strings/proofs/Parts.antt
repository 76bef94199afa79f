-- Demand 1 for a run, and a run in parts.
use Prim.Native.Nat.{ℕ, zero, suc, ◌+◌, ◌-◌, ◌≤◌, ◌<◌}
use mathlib.Core.Path.{◌≡◌, refl, sym, ap, ◌∙◌}
use mathlib.Core.Bool.{Bool, true, false, not}
use mathlib.Core.List.{List, [], ◌∷◌, append_assoc}
use native.Mathlib.Omega.{arith}
use lib.Dec.{ltb}
use lib.ListN.{length, drop, length-append, length-drop}
use lib.Seq.{drop-drop, take-append_seam, drop-append_seam}
use borrow.Author.Tests.{ltb-true, ltb-false, not-false}
use Rattle.std.specs.Prelude.{if◌then◌else◌}
use Rattle.rules.specs.Calls.{accepted, state_not_valid}
use Rattle.rules.specs.Valid.{valid_of}
use Rattle.rules.specs.Make.{made}
use Rattle.rules.proofs.Tests.{choice}
use Rattle.laws.proofs.Keep.{calls-keep}
use Rattle.strings.specs.Types.{State, Call}
use Rattle.strings.specs.String.{whole, front_of}
use Rattle.strings.specs.Run.{answers_too_short, Ran, ran, after, is_read, answer_bytes, run_on, Given, ended, run_of}
use Rattle.strings.specs.OneByOne.{records_after, records_in, unrefused, KeepsRun, joined, on_the_rest, InParts}
use Rattle.strings.proofs.Fronts.{front-ahead}
use Rattle.strings.proofs.Runs.{after-after, after_nothing, used-up, at-the-end, malformed, call-taken, every-run}
use Rattle.strings.proofs.OneByOne.{runs, runs-not-valid, runs-too-short}

-- ---- the records before the one that a run stops at

abbrev accepts : Ran → Ran
accepts r = ran accepted r.taken r.answers r.state

before-it : (n : ℕ) (s : State) (string : List ℕ) → run_on (run_on n s string).taken s string ≡ accepts (run_on n s string)
before-it =
    every-run (λ n s string r. run_on r.taken s string ≡ accepts r)
    (record {
      none = used-up;
      over = λ n s string e. used-up s string;
      broken = λ n s string refusal e. used-up s string;
      denied = λ n s string call rest e h. used-up s string;
      on = λ n s string call rest e h r same.
          let one : 1 + r.taken ≡ suc r.taken = omega arith in
          ap (λ k. run_on k s string) one ∙ call-taken s r.taken string call rest e h ∙ ap (after 1 (answer_bytes call (made s call))) same;
    })

-- ---- a valid state stays valid

stays-valid : (n : ℕ) (s : State) (string : List ℕ) → valid_of s ≡ true → valid_of (run_on n s string).state ≡ true
stays-valid =
    every-run (λ n s string r. valid_of s ≡ true → valid_of r.state ≡ true)
    (record {
      none = λ s string v. v;
      over = λ n s string e v. v;
      broken = λ n s string refusal e v. v;
      denied = λ n s string call rest e h v. v;
      on = λ n s string call rest e h r keeps v. keeps ((calls-keep s call).valid v);
    })

-- ---- the string after the records that were taken

module _ (n : ℕ) (string : List ℕ) where
  rest-after : (call : Call) (rest : List ℕ) → front_of string ≡ whole call rest → (records_in (1 + n) string).rest ≡ (records_in n rest).rest
  unfolding records_in
  rest-after call rest e =
      let one : 1 + n ≡ suc n = omega arith in
      ap (λ k. (records_in k string).rest) one ∙ ap (λ f. (records_after f string (records_in n)).rest) e

rest-of-none : (string : List ℕ) → (records_in 0 string).rest ≡ string
unfolding records_in
rest-of-none string = refl

one_byte : (read : Bool) (byte : ℕ) → length (if read then byte ∷ [] else []) ≤ 1
one_byte true byte = omega arith
one_byte false byte = omega arith

few-answers : (n : ℕ) (s : State) (string : List ℕ) →
    length (run_on n s string).answers + length (records_in (run_on n s string).taken string).rest ≤ length string
few-answers =
    every-run (λ n s string r. length r.answers + length (records_in r.taken string).rest ≤ length string)
    (record {
      none = λ s string. rw (rest-of-none string) (omega arith);
      over = λ n s string e. rw (rest-of-none string) (omega arith);
      broken = λ n s string refusal e. rw (rest-of-none string) (omega arith);
      denied = λ n s string call rest e h. rw (rest-of-none string) (omega arith);
      on = λ n s string call rest e h r few.
          let a = front-ahead call rest string e in
          let long : length rest ≡ length string - a.count = ap length a.is ∙ length-drop a.count string in
          rw (rest-after r.taken string call rest e, length-append)
          (omega (arith, few, long, a.enough, a.within, one_byte (is_read call) (made s call).byte));
    })

-- ---- a run of a, and then one of b

abbrev Then : ℕ → State → List ℕ → Ran → Type 0
Then a s string x =
    (b : ℕ) → x.refusal ≡ accepted → run_on (a + b) s string ≡ after x.taken x.answers (run_on b x.state (records_in x.taken string).rest)

-- where the reading stops before any record, every run stops
module _ (s : State) (string : List ℕ) (r : Ran) (stops : (k : ℕ) → run_on (suc k) s string ≡ r) (same : r ≡ ran accepted 0 [] s) where
  every-stops : (k : ℕ) → run_on k s string ≡ ran accepted 0 [] s
  every-stops zero = used-up s string
  every-stops (suc k) = stops k ∙ same

  then-stops : (a b : ℕ) → run_on (a + b) s string ≡ after 0 [] (run_on b s (records_in 0 string).rest)
  then-stops a b = rw (rest-of-none string, every-stops (a + b), every-stops b) refl

in_parts : (a : ℕ) (s : State) (string : List ℕ) → Then a s string (run_on a s string)
in_parts =
    every-run Then
    (record {
      none = λ s string b h. let n : 0 + b ≡ b = omega arith in rw (n, rest-of-none string) (sym (after_nothing (run_on b s string)));
      over = λ n s string e b h. then-stops s string _ (λ k. at-the-end s k string e) refl (suc n) b;
      broken = λ n s string refusal e b h. then-stops s string _ (λ k. malformed s k string refusal e) (ap (λ x. ran x 0 [] s) h) (suc n) b;
      denied = λ n s string call rest e no b h. absurd (no h);
      on = λ n s string call rest e h r same b g.
          let m : suc n + b ≡ suc (n + b) = omega arith in
          let byte = answer_bytes call (made s call) in
          rw (m, rest-after r.taken string call rest e)
          (call-taken s (n + b) string call rest e h ∙ ap (after 1 byte) (same b g) ∙ after-after 1 r.taken byte r.answers _);
    })

-- ---- the call

-- what holds of each way that a call of the run can go holds of it
pub of-each-way : (P : Given → Type 0) (s : State) (string : List ℕ) (allowance : ℕ) (buffer : List ℕ) → P (ended (ran state_not_valid 0 [] s) buffer) →
    (valid_of s ≡ true → length buffer < length string → P (ended (ran answers_too_short 0 [] s) buffer)) →
    (valid_of s ≡ true → length string ≤ length buffer → P (ended (run_on allowance s string) buffer)) → P (run_of s string allowance buffer)
unfolding run_of
of-each-way P s string allowance buffer bad short good =
    choice P (not (valid_of s)) _ _ (λ v. bad)
    (λ v. choice P (ltb (length buffer) (length string)) _ _ (λ h. short (not-false _ v) (ltb-true _ _ h)) (λ h. good (not-false _ v) (ltb-false _ _ h)))

module _ (s : State) (string : List ℕ) (allowance : ℕ) (buffer : List ℕ) where
  before-run : valid_of s ≡ true → length string ≤ length buffer →
      run_of s string (run_of s string allowance buffer).answer.taken buffer ≡ unrefused (run_of s string allowance buffer)
  before-run v room =
      let e = runs s string allowance buffer v room in
      ap (λ (g : Given). run_of s string g.answer.taken buffer) e ∙ runs s string _ buffer v room ∙
      ap (λ (r : Ran). ended r buffer) (before-it allowance s string) ∙ sym (ap unrefused e)

  pub run-keeps : KeepsRun s string allowance buffer
  run-keeps =
      record {
        not_valid = runs-not-valid s string allowance buffer;
        too_short = runs-too-short s string allowance buffer;
        before = before-run;
        valid = λ v.
            of-each-way (λ g. valid_of g.answer.state ≡ true) s string allowance buffer v (λ _ _. v)
            (λ _ _. stays-valid allowance s string v);
        few =
            of-each-way (λ g. g.answer.answered + length (records_in g.answer.taken string).rest ≤ length string) s string allowance buffer
            (rw (rest-of-none string) (omega arith)) (λ _ _. rw (rest-of-none string) (omega arith)) (λ _ _. few-answers allowance s string);
      }

join-ended : (x y : Ran) (buffer : List ℕ) →
    ended (after x.taken x.answers y) buffer ≡ joined (ended x buffer) (ended y (drop (length x.answers) buffer))
join-ended x y buffer =
    rw (length-append, take-append_seam x.answers (drop (length x.answers) buffer), drop-drop (length y.answers) (length x.answers) buffer, append_assoc)
    refl

module _ (s : State) (string : List ℕ) (a b : ℕ) (buffer : List ℕ) where
  parts : valid_of s ≡ true → length string ≤ length buffer → (run_on a s string).refusal ≡ accepted →
      run_of s string (a + b) buffer ≡ joined (ended (run_on a s string) buffer) (on_the_rest (ended (run_on a s string) buffer) string b)
  parts v room h =
      let x = run_on a s string in
      let rest = (records_in x.taken string).rest in
      let left = drop-append_seam x.answers (drop (length x.answers) buffer) in
      let few = few-answers a s string in
      let fits : length rest ≤ length (drop (length x.answers) buffer) = rw (length-drop (length x.answers) buffer) (omega arith) in
      runs s string (a + b) buffer v room ∙ ap (λ (r : Ran). ended r buffer) (in_parts a s string b h) ∙ join-ended x (run_on b x.state rest) buffer ∙
      ap (joined (ended x buffer))
      (sym (ap (run_of x.state rest b) left ∙ runs x.state rest b (drop (length x.answers) buffer) (stays-valid a s string v) fits))

  pub run-in-parts : InParts s string a b buffer
  run-in-parts =
      of-each-way (λ x. x.answer.refusal ≡ accepted → run_of s string (a + b) buffer ≡ joined x (on_the_rest x string b)) s string a buffer
      (λ h. absurd (omega arith)) (λ _ _ h. absurd (omega arith)) parts
