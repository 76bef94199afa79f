-- K6, "Target in one go": "Writing the high byte and then the low one gave a moment at a wrong target, and spin-up started from it."
use Rattle.std.specs.Prelude.{ℕ, ◌≡◌, Bool, true, false, List, [], ◌∷◌, map, if◌then◌else◌}
use Rattle.demands.specs.Types.{Channel, State, WordRegister, Target, TargetCount, ReadAnswer, WriteWord}
use Rattle.rules.specs.State.{channel}
use Rattle.rules.specs.Registers.{target_count}
use Rattle.rules.specs.Words.{left_justified, shown_in}
use Rattle.rules.specs.Map.{target_address}
use Rattle.rules.specs.Calls.{accepted}
use Rattle.rules.specs.Tick.{spin_up_due}
use Rattle.rules.specs.Make.{made_each, after_each}
use Rattle.demands.specs.Trials.{Reads}

-- whether it is the duty of the two
abbrev pub is_duty : WordRegister → Bool
is_duty Target = true
is_duty TargetCount = false

-- "target duty, 9 bits", "target count, 11 bits": the width of a target, and the one that a channel has
abbrev pub width_of : WordRegister → ℕ
width_of Target = 9
width_of TargetCount = 11

abbrev pub target_of : Channel → WordRegister → ℕ
target_of ch Target = ch.target
target_of ch TargetCount = target_count ch

-- a word to one of the two targets of the channel with index i
module _ (s : State) (r : WordRegister) (i word : ℕ) where
  -- what the call answers, with every state that it leads to, and the last of these
  abbrev pub word_answers : List ReadAnswer
  word_answers = made_each s (WriteWord (target_address r i) word ∷ [])

  abbrev pub after_word : State
  after_word = after_each s (WriteWord (target_address r i) word ∷ [])

  pub record InOneGo : Type 0 where
    -- it is accepted, and the target is the number that the word shows: in one state, and no other lies between
    pub taken : map (λ a. a.refusal) word_answers ≡ accepted ∷ []
    pub shown : map (λ a. target_of (channel a.state i) r) word_answers ≡ shown_in (width_of r) word ∷ []
    -- both bytes then read as the word's, the high one first, those bits 0 that show no number
    pub reads : Reads after_word (target_address r i) (left_justified (width_of r) (shown_in (width_of r) word))
    -- "It counts as one bus transaction": the idle count is 0, and no expiry is in force
    pub idle : after_word.timer.idle ≡ 0
    pub expired : after_word.timer.expired ≡ false
    -- "and for a duty clears the fault once"; a target count leaves it
    pub fault : (channel after_word i).fault ≡ (if is_duty r then false else (channel s i).fault)
    pub queue : (channel after_word i).queue ≡ (if is_duty r then 0 else (channel s i).queue)
    -- the ramp value stays and so does a running spin-up with its pulses, so that a fan which turns is not started anew
    pub ramp : (channel after_word i).ramp ≡ (channel s i).ramp
    pub spin : (channel after_word i).spin ≡ (channel s i).spin
    pub pulses : (channel after_word i).pulses ≡ (channel s i).pulses
    pub not-due : ((channel s i).ramp ≡ 0 → ⊥) → spin_up_due (channel after_word i) ≡ false
    -- and so does every other channel
    pub others : (k : ℕ) → (k ≡ i → ⊥) → channel after_word k ≡ channel s k
