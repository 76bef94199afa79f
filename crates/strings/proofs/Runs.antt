-- The lines of the run's definition, by what the string begins with and what the call answers.
use Prim.Native.Nat.{ℕ, zero, suc, ◌+◌}
use mathlib.Core.Path.{◌≡◌, refl}
use mathlib.Core.List.{List, [], ◌++◌, append_assoc}
use native.Mathlib.Omega.{arith}
use lib.Dec.{eqb}
use borrow.Author.Tests.{eq-eqb, ne_eqb, eqb-true, eqb-false}
use Rattle.std.specs.Prelude.{if◌then◌else◌}
use Rattle.rules.specs.Calls.{accepted}
use Rattle.rules.specs.Make.{made}
use Rattle.rules.proofs.Tests.{choice}
use Rattle.strings.specs.Types.{State, Call}
use Rattle.strings.specs.String.{Front, whole, end, refused, front_of}
use Rattle.strings.specs.Run.{Ran, ran, after, answer_bytes, on_front, run_on}

-- what follows so many records and answers follows them in one go
pub after-after : (a b : ℕ) (x y : List ℕ) (r : Ran) → after a x (after b y r) ≡ after (a + b) (x ++ y) r
after-after a b x y r =
    let n : a + (b + r.taken) ≡ a + b + r.taken = omega arith in
    rw (n, append_assoc) refl

pub after_nothing : (r : Ran) → after 0 [] r ≡ r
after_nothing r = let n : 0 + r.taken ≡ r.taken = omega arith in rw n refl

-- what a run does with a record
abbrev pub on_found : ℕ → State → Call → List ℕ → Ran
on_found n s call rest =
    let a = made s call in
    if eqb a.refusal accepted then after 1 (answer_bytes call a) (run_on n a.state rest) else ran a.refusal 0 [] s

module _ (s : State) where
  pub used-up : (string : List ℕ) → run_on 0 s string ≡ ran accepted 0 [] s
  unfolding run_on
  used-up string = refl

  module _ (n : ℕ) (string : List ℕ) where
    pub at-the-end : front_of string ≡ end → run_on (suc n) s string ≡ ran accepted 0 [] s
    unfolding run_on
    at-the-end e = rw e refl

    pub malformed : (refusal : ℕ) → front_of string ≡ refused refusal → run_on (suc n) s string ≡ ran refusal 0 [] s
    unfolding run_on
    malformed refusal e = rw e refl

    module _ (call : Call) (rest : List ℕ) (e : front_of string ≡ whole call rest) where
      pub call-taken : (made s call).refusal ≡ accepted →
          run_on (suc n) s string ≡ after 1 (answer_bytes call (made s call)) (run_on n (made s call).state rest)
      unfolding run_on
      call-taken h = rw (e, eq-eqb (made s call).refusal accepted h) refl

      pub call-refused : ((made s call).refusal ≡ accepted → ⊥) → run_on (suc n) s string ≡ ran (made s call).refusal 0 [] s
      unfolding run_on
      call-refused h = rw (e, ne_eqb (made s call).refusal accepted h) refl

-- ---- what holds of every run: of each way to stop, and of one record more before a run of which it holds

pub record Cases (P : ℕ → State → List ℕ → Ran → Type 0) : Type 0 where
  pub none : (s : State) (string : List ℕ) → P 0 s string (ran accepted 0 [] s)
  pub over : (n : ℕ) (s : State) (string : List ℕ) → front_of string ≡ end → P (suc n) s string (ran accepted 0 [] s)
  pub broken : (n : ℕ) (s : State) (string : List ℕ) (refusal : ℕ) → front_of string ≡ refused refusal → P (suc n) s string (ran refusal 0 [] s)
  pub denied : (n : ℕ) (s : State) (string : List ℕ) (call : Call) (rest : List ℕ) → front_of string ≡ whole call rest →
      ((made s call).refusal ≡ accepted → ⊥) → P (suc n) s string (ran (made s call).refusal 0 [] s)
  pub on : (n : ℕ) (s : State) (string : List ℕ) (call : Call) (rest : List ℕ) → front_of string ≡ whole call rest →
      (made s call).refusal ≡ accepted → (r : Ran) → P n (made s call).state rest r → P (suc n) s string (after 1 (answer_bytes call (made s call)) r)

pub every-run : (P : ℕ → State → List ℕ → Ran → Type 0) → Cases P → (n : ℕ) (s : State) (string : List ℕ) → P n s string (run_on n s string)
unfolding run_on
every-run P c zero s string = c.none s string
every-run P c (suc n) s string = by (λ t rest. every-run P c n t rest) (front_of string) refl
  where
    by : ((t : State) (rest : List ℕ) → P n t rest (run_on n t rest)) → (f : Front) → front_of string ≡ f → P (suc n) s string (on_front f s (on_found n s))
    by same end e = c.over n s string e
    by same (refused refusal) e = c.broken n s string refusal e
    by same (whole call rest) e =
        choice (P (suc n) s string) (eqb (made s call).refusal accepted) _ _
        (λ h. c.on n s string call rest e (eqb-true _ _ h) _ (same (made s call).state rest))
        (λ h. c.denied n s string call rest e (eqb-false _ _ h))
