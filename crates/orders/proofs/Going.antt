-- The loop over the records of a string.
use Prim.Native.Nat.{ℕ, suc, ◌+◌, ◌-◌, ◌<◌, ◌≤◌}
use mathlib.Core.Path.{◌≡◌, refl, sym, ◌∙◌, ap}
use mathlib.Core.List.{List, [], append-nil}
use native.Mathlib.Omega.{arith}
use lib.ListN.{length, take, drop, take-append-drop}
use lib.Seq.{length-take-le}
use Rattle.std.specs.Prelude.{Option, None, Some}
use Rattle.std.specs.Option.{is_some, option_to_list}
use Rattle.rules.specs.declared.State.{State}
use Rattle.rules.specs.declared.Call.{Call}
use Rattle.rules.specs.declared.Made.{Made}
use Rattle.rules.specs.declared.refusal.Refusal.{Refusal}
use Rattle.rules.specs.declared.refusal.Refusal.TheVariants as refused
use Rattle.rules.specs.Calls.{accepted, number_of, read_answer}
use Rattle.rules.specs.Make.{is_read, byte_or_0, made}
use Rattle.strings.specs.Found as found
use Rattle.strings.specs.String.{record_at}
use Rattle.strings.specs.Run.{ran, after, answer_bytes, run_on, given, ended}
use Rattle.strings.proofs.Fronts.{FoundAhead, record-ahead, ended_here, refused-here}
use Rattle.strings.proofs.Runs.{after_nothing, used-up, at-the-end, malformed, call-taken, call-refused}
use Rattle.orders.specs.Steps.{TakesOne, Stops}

-- ---- one record

-- a byte that is there exactly for a read is the answer of the call
answer-is : (call : Call) (byte : Option ℕ) (s : State) → is_some byte ≡ is_read call →
    answer_bytes call (read_answer accepted (byte_or_0 byte) s) ≡ option_to_list byte
answer-is call None s e = rw (sym e) refl
answer-is call (Some byte) s e = rw (sym e) refl

not-accepted : (refusal : Refusal) → number_of refusal ≡ accepted → ⊥
not-accepted refused.StateNotValid e = omega arith
not-accepted refused.NotCarried e = omega arith
not-accepted refused.ReadOnly e = omega arith
not-accepted refused.ConfigNotAllowed e = omega arith
not-accepted refused.NoSuchChannel e = omega arith
not-accepted refused.SpeedOutOfRange e = omega arith
not-accepted refused.StartOutOfRange e = omega arith
not-accepted refused.WrongWidth e = omega arith

module _ (s : State) (string : List ℕ) (at : ℕ) where
  pub string-over : found.End ≡ record_at string at → Stops accepted s (drop at string)
  string-over e n = at-the-end s n (drop at string) (ended_here string at _ e refl)

  pub record-broken : (refusal : ℕ) → found.Refused refusal ≡ record_at string at → Stops refusal s (drop at string)
  record-broken refusal e n = malformed s n (drop at string) refusal (refused-here string at _ e refusal refl)

  module _ (call : Call) (next : ℕ) (e : found.Record call next ≡ record_at string at) where
    ahead : FoundAhead string at call next
    ahead = record-ahead string at _ e call next refl

    pub call-denied : (refusal : Refusal) → read_answer (number_of refusal) 0 s ≡ made s call → Stops (number_of refusal) s (drop at string)
    call-denied refusal m n =
        let number : number_of refusal ≡ (made s call).refusal = ap (λ a. a.refusal) m in
        call-refused s n (drop at string) call (drop next string) ahead.front (λ h. not-accepted refusal (number ∙ h)) ∙ ap (λ r. ran r 0 [] s) (sym number)

    pub call-made : (m : Made) → read_answer accepted (byte_or_0 m.byte) m.state ≡ made s call → is_some m.byte ≡ is_read call →
        TakesOne (record { made = m; next = next }) s string at
    call-made m is b =
        record {
          further = omega (arith, ahead.enough);
          within = ahead.within;
          goes_on = λ n.
              call-taken s n (drop at string) call (drop next string) ahead.front (ap (λ a. a.refusal) (sym is)) ∙ rw (← is) (ap (λ x. after 1 x (run_on n m.state (drop next string))) (answer-is call m.byte m.state b));
        }

-- ---- a run that has come so far

pub record Going (s₀ : State) (string : List ℕ) (allowance : ℕ) (before buffer : List ℕ) (s : State) (taken answered at : ℕ) : Type 0 where
  pub room : length string ≤ length before
  pub long : length buffer ≡ length before
  pub behind : answered ≤ at
  pub within : at ≤ length string
  pub rest : drop answered buffer ≡ drop answered before
  pub same : after taken (take answered buffer) (run_on (allowance - taken) s (drop at string)) ≡ run_on allowance s₀ string

pub begins : (s : State) (string : List ℕ) (allowance : ℕ) (before : List ℕ) → length string ≤ length before → Going s string allowance before before s 0 0 0
begins s string allowance before h =
    let w : allowance - 0 ≡ allowance = omega arith in
    record { room = h; long = refl; behind = omega arith; within = omega arith; rest = refl; same = rw w (after_nothing (run_on allowance s string)) }

module _ (s₀ : State) (string : List ℕ) (allowance : ℕ) (before buffer : List ℕ) (s : State) (taken answered at : ℕ)
    (g : Going s₀ string allowance before buffer s taken answered at) where
  -- it stops here
  stops : (refusal : ℕ) → run_on (allowance - taken) s (drop at string) ≡ ran refusal 0 [] s →
      given (record { refusal = refusal; taken = taken; answered = answered; state = s }) buffer ≡ ended (run_on allowance s₀ string) before
  stops refusal e =
      let l : length (take answered buffer) ≡ answered = length-take-le answered buffer (omega (arith, g.behind, g.within, g.room, g.long)) in
      let n : taken + 0 ≡ taken = omega arith in
      let here : ran refusal taken (take answered buffer) s ≡ run_on allowance s₀ string = rw (e, n, append-nil) at g.same in
      rw (← here, l) (ap (given _) (sym (take-append-drop answered buffer) ∙ rw g.rest refl))

  pub run-used-up : allowance ≤ taken →
      given (record { refusal = accepted; taken = taken; answered = answered; state = s }) buffer ≡ ended (run_on allowance s₀ string) before
  run-used-up h = let w : allowance - taken ≡ 0 = omega arith in stops accepted (rw w (used-up s (drop at string)))

  module _ (t : taken < allowance) where
    left : allowance - taken ≡ suc (allowance - (taken + 1))
    left = omega arith

    pub run-stops : (refusal : ℕ) → Stops refusal s (drop at string) →
        given (record { refusal = refusal; taken = taken; answered = answered; state = s }) buffer ≡ ended (run_on allowance s₀ string) before
    run-stops refusal h = stops refusal (rw left (h _))
