-- A word write to a target leaves one state, in which the target is the word's; and the story of a fan that was started anew.
use Prim.Native.Nat.{ℕ, ◌+◌, ◌<◌}
use mathlib.Core.Path.{◌≡◌, refl, sym, ◌∙◌, ap}
use mathlib.Core.Bool.{Bool, true, false}
use mathlib.Core.List.{List, [], ◌∷◌, map}
use native.Mathlib.Omega.{arith}
use lib.ListN.{replicate}
use lib.Seq.{get_or-set_same, get_or-set_other}
use borrow.Author.Tests.{ne_eqb}
use Rattle.demands.specs.Types.{Channel, State, WordRegister, Target, TargetCount, Call, Ticks, WriteWord}
use Rattle.std.specs.Prelude.{if◌then◌else◌}
use Rattle.rules.specs.Basics.{flag}
use Rattle.rules.specs.State.{blank, channel, results, start_values, timer, with_motion, with_results, with_settings, with_channels, with_timer}
use Rattle.rules.specs.Words.{shown_in, left_justified, word_byte}
use Rattle.rules.specs.Map.{target_at, place_at, target_address}
use Rattle.rules.specs.Time.{watchdog_limit, spin_ticks}
use Rattle.rules.specs.Duty.{conditions_of, override_by}
use Rattle.rules.specs.Calls.{accepted, answer, accessed}
use Rattle.rules.specs.Valid.{valid_channel, valid_pulses, valid_registers, valid_start, valid_timer, valid_of}
use Rattle.rules.specs.Start.{start_channel, as_at_start}
use Rattle.rules.specs.WriteWord.{target_written, own_word_written, word_written, word_refusal, write_word_of}
use Rattle.rules.specs.Read.{target_word, place_byte, read_at, read_of}
use Rattle.rules.specs.Tick.{wanted, spin_up_due, timer_tick, channel_tick, leaves_zero, in_turn, wait_after, channels_tick, wait_tick, tick, iterate, ticks_passed}
use Rattle.rules.specs.Make.{without_byte, made, made_each, after_each}
use Rattle.laws.proofs.Keep.{calls-keep}
use Rattle.laws.proofs.Targets.{target-place, word-written}
use Rattle.demands.specs.Trials.{OneOfSix}
use Rattle.demands.specs.InOneGo.{is_duty, width_of, target_of, word_answers, after_word, InOneGo}

read-target : (s : State) (r : WordRegister) (i a : ℕ) (low : Bool) → valid_of s ≡ true → i < 6 → a ≡ target_address r i + flag low →
    (read_of s a).byte ≡ word_byte low (target_word (channel s i) r)
unfolding read_of read_at place_byte
read-target s r i a low valid below e = rw (valid, target-place r i a low below e) refl

-- ---- a channel whose target was written

module _ (ch : Channel) (word : ℕ) where
  target_is : (r : WordRegister) → target_of (target_written ch word r) r ≡ shown_in (width_of r) word
  unfolding target_written
  target_is Target = refl
  target_is TargetCount = refl

  word-is : (r : WordRegister) → target_word ch r ≡ left_justified (width_of r) (target_of ch r)
  unfolding target_word
  word-is Target = refl
  word-is TargetCount = refl

  motion-stays : (r : WordRegister) →
      ((target_written ch word r).ramp ≡ ch.ramp) × ((target_written ch word r).spin ≡ ch.spin) × ((target_written ch word r).pulses ≡ ch.pulses)
  unfolding target_written
  motion-stays Target = (refl, refl, refl)
  motion-stays TargetCount = (refl, refl, refl)

  clears : (r : WordRegister) →
      ((target_written ch word r).fault ≡ (if is_duty r then false else ch.fault)) × ((target_written ch word r).queue ≡ (if is_duty r then 0 else ch.queue))
  unfolding target_written
  clears Target = (refl, refl)
  clears TargetCount = (refl, refl)

-- spin-up is due at ramp value 0 alone
turning-not-due : (ch : Channel) → (ch.ramp ≡ 0 → ⊥) → spin_up_due ch ≡ false
unfolding spin_up_due
turning-not-due ch turns = rw (ne_eqb ch.ramp 0 turns) refl

-- ---- the state after it

module _ (s : State) (r : WordRegister) (i word : ℕ) (o : OneOfSix s i) where
  after_is : after_word s r i word ≡ own_word_written (accessed s) word r i
  unfolding after_each made
  after_is = ap (λ a. a.state) (word-written s r i word o.is-valid o.below)

  channel-is : channel (after_word s r i word) i ≡ target_written (channel s i) word r
  channel-is =
      ap (λ x. channel x i) after_is
      ∙ get_or-set_same s.channels i (target_written (channel s i) word r) blank (omega (arith, o.below, o.six))

  after-valid : valid_of (after_word s r i word) ≡ true
  unfolding after_each
  after-valid = (calls-keep s (WriteWord (target_address r i) word)).valid o.is-valid

  -- the number that it shows, as the word that its bytes read
  reads_as : (a : ℕ) (low : Bool) → a ≡ target_address r i + flag low →
      (read_of (after_word s r i word) a).byte ≡ word_byte low (left_justified (width_of r) (shown_in (width_of r) word))
  reads_as a low here =
      read-target (after_word s r i word) r i a low after-valid o.below here
      ∙ ap (word_byte low) (ap (λ ch. target_word ch r) channel-is ∙ word-is _ word r ∙ ap (left_justified (width_of r)) (target_is (channel s i) word r))

  answers-are : word_answers s r i word ≡ without_byte (answer accepted (after_word s r i word)) ∷ []
  unfolding made_each after_each made
  answers-are = rw (word-written s r i word o.is-valid o.below) refl

  pub in-one-go : InOneGo s r i word
  in-one-go =
      let ramp = ap (λ ch. ch.ramp) channel-is ∙ (motion-stays (channel s i) word r).0 in
      record {
        taken = ap (map (λ a. a.refusal)) answers-are;
        shown = ap (map (λ a. target_of (channel a.state i) r)) answers-are ∙ ap (λ ch. target_of ch r ∷ []) channel-is ∙ ap (λ n. n ∷ []) (target_is (channel s i) word r);
        reads = record { high = reads_as _ false (omega arith); low = reads_as _ true refl };
        idle = ap (λ x. x.timer.idle) after_is;
        expired = ap (λ x. x.timer.expired) after_is;
        fault = ap (λ ch. ch.fault) channel-is ∙ (clears (channel s i) word r).0;
        queue = ap (λ ch. ch.queue) channel-is ∙ (clears (channel s i) word r).1;
        ramp = ramp;
        spin = ap (λ ch. ch.spin) channel-is ∙ (motion-stays (channel s i) word r).1;
        pulses = ap (λ ch. ch.pulses) channel-is ∙ (motion-stays (channel s i) word r).2;
        not-due = λ turns. turning-not-due _ (λ z. turns (sym ramp ∙ z));
        others = λ k other. ap (λ x. channel x k) after_is ∙ get_or-set_other s.channels i k _ blank other;
      }

-- ---- the old story

-- a fan that turns at 200, rate code 0 and spin-up code 1, with the watchdog counting and a fault in the queue
abbrev turning : State
turning =
    let v = start_values 1 1 200 0 0 in
    let ch = with_motion (with_settings (start_channel v) 0x20 0x40 0 200 480) 200 0 0 in
    with_timer (with_channels (as_at_start v 0 true) (replicate 6 (with_results ch (results 600 1 false)))) (timer 1000 7 false false 0)

-- channel 1 after calls: its target, its ramp value, and its remaining spin-up ticks
abbrev seen_after : List Call → List ℕ
seen_after calls = let ch = channel (after_each turning calls) 0 in ch.target ∷ ch.ramp ∷ ch.spin ∷ []

-- it is set to 1, word 0080h. The old high byte, 00h, made the target 0: a tick took the ramp there, and the low byte, 80h, then started
-- a spin-up. In one go the ramp goes to 1 and no spin-up starts
pub in-one-go-example : OneOfSix turning 0
    × (seen_after (WriteWord 0x40 0x0000 ∷ Ticks 1 ∷ WriteWord 0x40 0x0080 ∷ Ticks 1 ∷ []) ≡ 1 ∷ 511 ∷ 256 ∷ [])
    × (seen_after (WriteWord 0x40 0x0080 ∷ []) ≡ 1 ∷ 200 ∷ 0 ∷ [])
    × (seen_after (WriteWord 0x40 0x0080 ∷ Ticks 1 ∷ []) ≡ 1 ∷ 1 ∷ 0 ∷ [])
unfolding after_each made write_word_of word_refusal word_written target_written place_at target_at valid_of valid_registers valid_start valid_timer valid_channel valid_pulses watchdog_limit ticks_passed iterate tick timer_tick channels_tick wait_tick in_turn wait_after leaves_zero channel_tick conditions_of override_by spin_up_due wanted spin_ticks
in-one-go-example = (record { is-valid = refl; six = refl; below = omega arith }, refl, refl, refl)
