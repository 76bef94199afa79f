-- A word write to a channel's target: it is accepted, what it leaves, and the call that writes a duty.
use Prim.Native.Nat.{ℕ, zero, suc, ◌+◌, ◌-◌, ◌*◌, ◌/◌, ◌%◌, ◌<◌}
use mathlib.Core.Path.{◌≡◌, refl, ◌∙◌, ap}
use mathlib.Core.Bool.{Bool, true, false}
use mathlib.Core.List.{List, [], ◌∷◌, map}
use native.Mathlib.Omega.{arith}
use lib.ListN.{set, replicate}
use borrow.Author.Tests.{lt-ltb, le-ltb, eq-eqb, ne_eqb}
use Rattle.rules.specs.Basics.{flag}
use Rattle.rules.specs.Words.{duty_word}
use Rattle.rules.specs.Map.{is_low, target_at, place_at, target_address}
use Rattle.rules.specs.Calls.{accepted, answer, accessed}
use Rattle.rules.specs.Valid.{valid_start, valid_of}
use Rattle.rules.specs.Start.{start_of}
use Rattle.rules.specs.WriteWord.{target_written, own_word_written, word_written, word_refusal, write_word_of}
use Rattle.rules.specs.Make.{made, targets, target_call}
use Rattle.rules.proofs.Tests.{flag-le}
use Rattle.rules.proofs.Words.{duty-lossless}
use Rattle.laws.proofs.Types.{State, WordRegister, Target, TargetCount, OwnWord}

map-set : {A B : Type 0} (f : A → B) (xs : List A) (i : ℕ) (y : A) → map f (set xs i y) ≡ set (map f xs) i (f y)
map-set f [] i y = refl
map-set f (x ∷ xs) zero y = refl
map-set f (x ∷ xs) (suc i) y = ap (λ ys. f x ∷ ys) (map-set f xs i y)

-- at start each target is the pin-set one
pub start-targets : (watchdog spinup target frequency modification : ℕ) → watchdog < 4 → spinup < 4 → target < 512 → modification < 2 →
    targets (start_of watchdog spinup target frequency modification).state ≡ replicate 6 target
unfolding start_of valid_start
start-targets watchdog spinup target frequency modification w s t m =
    rw (lt-ltb watchdog 4 w, lt-ltb spinup 4 s, lt-ltb target 512 t, lt-ltb modification 2 m) refl

-- ---- the places of a word

-- in a row of words, the bytes of the word with index i
pub low_of : (i n : ℕ) (low : Bool) → n ≡ 2 * i + flag low → is_low n ≡ low
low_of i n true e = eq-eqb (n % 2) 1 (omega arith)
low_of i n false e = let ne : n % 2 ≡ 1 → ⊥ = λ z. omega arith in ne_eqb (n % 2) 1 ne

pub target-place : (r : WordRegister) (i a : ℕ) (low : Bool) → i < 6 → a ≡ target_address r i + flag low → place_at a ≡ OwnWord r i low
unfolding place_at target_at
target-place Target i a low h e =
    let index : (a - 0x40) / 2 ≡ i = omega (arith, flag-le low) in
    rw (le-ltb a 0x18 (omega arith), le-ltb a 0x40 (omega arith), lt-ltb a 0x4C (omega (arith, flag-le low)))
    (rw (index, low_of i (a - 0x40) low (omega arith)) refl)
target-place TargetCount i a low h e =
    let index : (a - 0x50) / 2 ≡ i = omega (arith, flag-le low) in
    rw (le-ltb a 0x18 (omega arith), le-ltb a 0x40 (omega arith), le-ltb a 0x4C (omega arith), le-ltb a 0x50 (omega arith), lt-ltb a 0x5C (omega (arith, flag-le low)))
    (rw (index, low_of i (a - 0x50) low (omega arith)) refl)

-- ---- the word write

pub word-written : (s : State) (r : WordRegister) (i word : ℕ) → valid_of s ≡ true → i < 6 →
    write_word_of s (target_address r i) word ≡ answer accepted (own_word_written (accessed s) word r i)
unfolding write_word_of word_refusal word_written
word-written s r i word valid below = rw (valid, target-place r i (target_address r i) false below (omega arith)) refl

-- ---- the call that writes a duty

pub target-call-is : (s : State) (i duty : ℕ) → (write_word_of s (0x40 + 2 * i) (duty_word duty)).state ≡ (made s (target_call i duty)).state
unfolding made target_call
target-call-is s i duty = refl

module _ (s : State) (i duty : ℕ) (valid : valid_of s ≡ true) (below : i < 6) where
  pub target-call-accepted : (made s (target_call i duty)).refusal ≡ accepted
  unfolding made target_call
  target-call-accepted = ap (λ a. a.refusal) (word-written s Target i (duty_word duty) valid below)

  pub target-call-set : duty < 512 → targets (made s (target_call i duty)).state ≡ set (targets s) i duty
  unfolding made target_call target_written
  target-call-set small =
      ap (λ a. targets a.state) (word-written s Target i (duty_word duty) valid below)
      ∙ map-set (λ ch. ch.target) s.channels i _
      ∙ ap (λ d. set (targets s) i d) (duty-lossless.number-back duty small)
