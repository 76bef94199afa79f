-- The pin-set values stay: no call changes them, and a reset, which brings back the state as at start, keeps them.
use Prim.Native.Nat.{ℕ, zero, suc}
use mathlib.Core.Path.{◌≡◌, refl}
use lib.Dec.{eqb}
use Rattle.rules.specs.Basics.{bit}
use Rattle.rules.specs.Map.{place_at, is_carried}
use Rattle.rules.specs.Calls.{accepted, unless_refused, accessed}
use Rattle.rules.specs.Valid.{valid_of, if_valid}
use Rattle.rules.specs.Write.{box_written, written, write_refusal, write_of}
use Rattle.rules.specs.WriteWord.{word_written, word_refusal, write_word_of}
use Rattle.rules.specs.Read.{read_at, read_of}
use Rattle.rules.specs.Tick.{tick, iterate, ticks_passed}
use Rattle.rules.specs.Make.{made}
use Rattle.rules.proofs.Tests.{choice}
use Rattle.laws.proofs.Types.{State, BoxRegister, Control, Frequency, Mask2, Mask1, Options, Place, Absent, ReadOnly, Shared, Own, OwnWord, Answer, ReadAnswer, Call, Write, Read, Ticks, Tachometer, Pin, WriteWord, Pulse}
use Rattle.laws.proofs.Results.{result-no-access, pulse-no-access, pin-no-access}

-- the same as in a state
abbrev SameStart : State → State → Type 0
SameStart s after = after.start ≡ s.start

box-start : (s : State) (b : ℕ) (r : BoxRegister) → SameStart s (box_written s b r)
unfolding box_written
box-start s b Control =
    choice (SameStart s) (bit 6 b) _ _ (λ _. refl) (λ _. choice (SameStart s) (bit 7 b) _ _ (λ _. refl) (λ _. refl))
box-start s b Frequency = refl
box-start s b Mask2 = refl
box-start s b Mask1 = refl
box-start s b Options = refl

written_start : (s : State) (b : ℕ) (p : Place) → SameStart s (written s b p)
unfolding written
written_start s b Absent = refl
written_start s b (ReadOnly r) = refl
written_start s b (Shared r) = box-start s b r
written_start s b (Own r i) = refl
written_start s b (OwnWord r i low) = refl

word-start : (s : State) (word : ℕ) (p : Place) → SameStart s (word_written s word p)
unfolding word_written
word-start s word Absent = refl
word-start s word (ReadOnly r) = refl
word-start s word (Shared r) = refl
word-start s word (Own r i) = refl
word-start s word (OwnWord r i low) = refl

ticks-start : (n : ℕ) (s : State) → SameStart s (iterate n tick s)
unfolding iterate tick
ticks-start zero s = refl
ticks-start (suc n) s = ticks-start n (tick s)

-- refused, it is the state as given
module _ (s : State) where
  if-valid-start : (given : Answer) → SameStart s given.state → SameStart s (if_valid s given).state
  if-valid-start given same = choice (λ (a : Answer). SameStart s a.state) (valid_of s) given _ (λ _. same) (λ _. refl)

  unless-refused-start : (refusal : ℕ) (next : State) → SameStart s next → SameStart s (unless_refused refusal s next).state
  unless-refused-start refusal next same =
      choice (λ (a : Answer). SameStart s a.state) (eqb refusal accepted) _ _ (λ _. same) (λ _. refl)

  read-start : (a : ℕ) → SameStart s (read_of s a).state
  unfolding read_of read_at
  read-start a =
      choice (λ (x : ReadAnswer). SameStart s x.state) (valid_of s) _ _
      (λ _. choice (λ (x : ReadAnswer). SameStart s x.state) (is_carried (place_at a)) _ _ (λ _. refl) (λ _. refl))
      (λ _. refl)

  pub start-stays : (call : Call) → (made s call).state.start ≡ s.start
  unfolding made write_of write_word_of ticks_passed
  start-stays (Write a b) =
      if-valid-start _ (unless-refused-start (write_refusal (place_at a) b) _ (written_start (accessed s) b (place_at a)))
  start-stays (Read a) = read-start a
  start-stays (Ticks n) = if-valid-start _ (ticks-start n s)
  start-stays (Tachometer n count) = (result-no-access s n count).start
  start-stays (Pin high) = (pin-no-access s high).start
  start-stays (WriteWord a word) =
      if-valid-start _ (unless-refused-start (word_refusal (place_at a)) _ (word-start (accessed s) word (place_at a)))
  start-stays (Pulse n) = (pulse-no-access s n).start
