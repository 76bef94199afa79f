-- Demand 1's last sentence, over the type of a call: a refused call gives the same state back, and a valid state stays valid.
use Prim.Native.Nat.{ℕ}
use mathlib.Core.Path.{◌≡◌, refl}
use mathlib.Core.Bool.{true, false}
use mathlib.Core.List.{List, [], ◌∷◌}
use lib.Dec.{eqb}
use borrow.Author.Tests.{eq-eqb}
use Rattle.rules.specs.Basics.{every}
use Rattle.rules.specs.Map.{setting_at, place_at, is_carried}
use Rattle.rules.specs.Calls.{accepted, state_not_valid, read_only, answer, unless_refused, is_channel, if_channel}
use Rattle.rules.specs.Valid.{valid_channel, valid_pulses, valid_registers, valid_start, valid_timer, valid_of, if_valid}
use Rattle.rules.specs.Time.{watchdog_limit}
use Rattle.rules.specs.Start.{zero_state}
use Rattle.rules.specs.Write.{write_refusal, write_of}
use Rattle.rules.specs.WriteWord.{word_refusal, write_word_of}
use Rattle.rules.specs.Read.{read_at, read_of}
use Rattle.rules.specs.Tick.{tick, iterate, ticks_passed}
use Rattle.rules.specs.Tachometer.{result_of}
use Rattle.rules.specs.Pin.{pin_of}
use Rattle.rules.specs.Pulse.{pulse_of}
use Rattle.rules.specs.Make.{made, made_each, after_each, Keeps}
use Rattle.rules.proofs.Tests.{choice}
use Rattle.laws.proofs.Types.{State, Answer, ReadAnswer, Call, Write, Read, Ticks, Tachometer, Pin, WriteWord, Pulse}
use Rattle.laws.proofs.Kept.{write-valid, write-word-valid, read-valid}
use Rattle.laws.proofs.Results.{result-valid, pulse-valid, pin-valid}
use Rattle.laws.proofs.TickValid.{iterate-valid}

-- ---- the call that passes ticks, by its test

module _ (s : State) (n : ℕ) where
  pub passed-valid : valid_of s ≡ true → ticks_passed s n ≡ answer accepted (iterate n tick s)
  unfolding ticks_passed
  passed-valid v = rw v refl

  pub passed-refused : valid_of s ≡ false → ticks_passed s n ≡ answer state_not_valid s
  unfolding ticks_passed
  passed-refused v = rw v refl

-- ---- a refused call

-- an answer that is no refusal, or has the state as it was
abbrev Same : State → ℕ → State → Type 0
Same s refusal after = (refusal ≡ accepted → ⊥) → after ≡ s

abbrev SameAnswer : State → Answer → Type 0
SameAnswer s a = Same s a.refusal a.state

same-if-valid : (s : State) (given : Answer) → SameAnswer s given → SameAnswer s (if_valid s given)
same-if-valid s given same = choice (SameAnswer s) (valid_of s) given _ (λ v. same) (λ v refused. refl)

accepted-same : (s after : State) → SameAnswer s (answer accepted after)
accepted-same s after refused = absurd (refused refl)

module _ (s : State) where
  same-unless-refused : (refusal : ℕ) (next : State) → SameAnswer s (unless_refused refusal s next)
  same-unless-refused refusal next = choice (SameAnswer s) (eqb refusal accepted) _ _ (λ e. accepted-same s next) (λ e refused. refl)

  write_same : (a b : ℕ) → SameAnswer s (write_of s a b)
  unfolding write_of
  write_same a b = same-if-valid s _ (same-unless-refused (write_refusal (place_at a) b) _)

  write-word-same : (a word : ℕ) → SameAnswer s (write_word_of s a word)
  unfolding write_word_of
  write-word-same a word = same-if-valid s _ (same-unless-refused (word_refusal (place_at a)) _)

  read_same : (a : ℕ) → Same s (read_of s a).refusal (read_of s a).state
  unfolding read_of read_at
  read_same a =
      choice (λ (x : ReadAnswer). Same s x.refusal x.state) (valid_of s) _ _
      (λ v. choice (λ (x : ReadAnswer). Same s x.refusal x.state) (is_carried (place_at a)) _ _
      (λ e refused. absurd (refused refl)) (λ e refused. refl))
      (λ v refused. refl)

  ticks-same : (n : ℕ) → SameAnswer s (ticks_passed s n)
  unfolding ticks_passed
  ticks-same n = same-if-valid s _ (accepted-same s _)

  of-channel-same : (n : ℕ) (next : State) → SameAnswer s (if_valid s (if_channel n s next))
  of-channel-same n next =
      same-if-valid s _ (choice (SameAnswer s) (is_channel n) _ _ (λ e. accepted-same s next) (λ e refused. refl))

  result-same : (n count : ℕ) → SameAnswer s (result_of s n count)
  unfolding result_of
  result-same n count = of-channel-same n _

  pulse-same : (n : ℕ) → SameAnswer s (pulse_of s n)
  unfolding pulse_of
  pulse-same n = of-channel-same n _

-- ---- every call

pub calls-keep : (s : State) (call : Call) → Keeps s call
unfolding made
calls-keep s (Write a b) = record { refused = write_same s a b; valid = λ v. write-valid s v a b }
calls-keep s (Read a) = record { refused = read_same s a; valid = λ v. read-valid s v a }
calls-keep s (Ticks n) =
    record { refused = ticks-same s n; valid = λ v. rw (passed-valid s n v) (iterate-valid n s v) }
calls-keep s (Tachometer n count) = record { refused = result-same s n count; valid = λ v. result-valid s v n count }
calls-keep s (Pin high) =
    record {
      refused = (unfold pin_of in same-if-valid s _ (accepted-same s _));
      valid = λ v. pin-valid s v high;
    }
calls-keep s (WriteWord a word) =
    record { refused = write-word-same s a word; valid = λ v. write-word-valid s v a word }
calls-keep s (Pulse n) = record { refused = pulse-same s n; valid = λ v. pulse-valid s v n }

-- a valid state and a call that it refuses: a write to 11h, which can only be read
pub kept-example : (valid_of zero_state ≡ true) × ((made zero_state (Write 0x11 0)).refusal ≡ read_only)
unfolding made write_of write_refusal place_at setting_at valid_of valid_registers valid_start valid_timer valid_channel valid_pulses watchdog_limit
kept-example = (refl, refl)

-- and so after a list of them
pub each-valid : (s : State) (calls : List Call) → valid_of s ≡ true → valid_of (after_each s calls) ≡ true
unfolding after_each
each-valid s [] v = v
each-valid s (call ∷ calls) v = each-valid (made s call).state calls ((calls-keep s call).valid v)

-- no calls; a first one, and others after it
pub each_none : (s : State) → after_each s [] ≡ s
unfolding after_each
each_none s = refl

pub each_first : (s : State) (call : Call) (calls : List Call) → after_each s (call ∷ calls) ≡ after_each (made s call).state calls
unfolding after_each
each_first s call calls = refl

-- each call of a list is accepted: of none, and of a first one and others after it
abbrev pub AllAccepted : State → List Call → Type 0
AllAccepted s calls = every (λ a. eqb a.refusal accepted) (made_each s calls) ≡ true

pub accepted-none : (s : State) → AllAccepted s []
unfolding made_each
accepted-none s = refl

pub accepted-first : (s : State) (call : Call) (calls : List Call) → (made s call).refusal ≡ accepted → AllAccepted (made s call).state calls → AllAccepted s (call ∷ calls)
unfolding made_each
accepted-first s call calls e rest = rw (eq-eqb (made s call).refusal accepted e) rest
