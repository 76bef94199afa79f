-- K7, "Spin-up that stops when the fan turns": what pulses do in a box of modification A, and in one of modification B.
use Rattle.std.specs.Prelude.{ℕ, ◌+◌, ◌-◌, ◌≤◌, ◌<◌, ◌≡◌, Bool, true, false, List, [], ◌∷◌, if◌then◌else◌}
use Rattle.demands.specs.Types.{State, ReadAnswer, Call, Write, Read, Ticks, Tachometer, Pin, WriteWord, Pulse}
use Rattle.rules.specs.State.{channel, with_motion}
use Rattle.rules.specs.Registers.{spin_code, watchdog_code, delay_code}
use Rattle.rules.specs.Time.{clock_after, spin_ticks, ends_early}
use Rattle.rules.specs.Duty.{conditions_of}
use Rattle.rules.specs.Tick.{spin_up_due, overridden, idle_limit, rule_at, leaves_zero}
use Rattle.rules.specs.Make.{made, made_each, after_each}
use Rattle.demands.specs.Elapsed.{duty_at}
use Rattle.demands.specs.Trials.{OneOfSix}

-- ---- A: "under A it does nothing"

abbrev pub is_pulse : Call → Bool
is_pulse (Write a b) = false
is_pulse (Read a) = false
is_pulse (Ticks n) = false
is_pulse (Tachometer n count) = false
is_pulse (Pin high) = false
is_pulse (WriteWord a word) = false
is_pulse (Pulse n) = true

-- a list of calls without its pulses; and what the others answer with them between
unfoldable pub without_pulses : List Call → List Call
without_pulses [] = []
without_pulses (call ∷ calls) = if is_pulse call then without_pulses calls else call ∷ without_pulses calls

unfoldable pub answers_beside : State → List Call → List ReadAnswer
answers_beside s [] = []
answers_beside s (call ∷ calls) =
    let others = answers_beside (made s call).state calls in
    if is_pulse call then others else made s call ∷ others

-- a list of calls with pulses in it leaves what the list without them leaves, and its other calls answer what they answer there
pub record AsWithoutPulses (s : State) (calls : List Call) : Type 0 where
  pub state : after_each s calls ≡ after_each s (without_pulses calls)
  pub answers : answers_beside s calls ≡ made_each s (without_pulses calls)

-- ---- B: "the second pulse within a running spin-up sets its remaining ticks to 0"

-- a box of B in which spin-up time of the channel with index i remains. It runs, or stands still under an override: pulses count in both
pub record SpinsUp (s : State) (i : ℕ) : Type 0 where
  pub channel-is : OneOfSix s i
  pub ends-early : ends_early s.start.modification ≡ true
  pub remains : 0 < (channel s i).spin

-- calls have ended it: the ramp value is 511, and nothing else of the channel has changed. Where no override is in force, the ramp value is the duty
pub record HasEnded (s : State) (i : ℕ) (calls : List Call) : Type 0 where
  pub ended : channel (after_each s calls) i ≡ with_motion (channel s i) 511 0 0
  pub duty : let t = after_each s calls in overridden (conditions_of t) (channel t i) ≡ false → duty_at t i ≡ (channel t i).ramp

-- a pulse of a channel and ticks after it, and one more pulse
module _ (i ticks : ℕ) where
  abbrev pub first_pulse : List Call
  first_pulse = Pulse (i + 1) ∷ Ticks ticks ∷ []

  abbrev pub both_pulses : List Call
  both_pulses = Pulse (i + 1) ∷ Ticks ticks ∷ Pulse (i + 1) ∷ []

-- "as stored it is 0 or 1"
pub record EndsEarly (s : State) (i : ℕ) : Type 0 where
  -- where one pulse is counted, the next is the second
  pub next-ends : (channel s i).pulses ≡ 1 → HasEnded s i (Pulse (i + 1) ∷ [])
  -- where none is, the first is counted, and ticks leave the count as long as spin-up time remains; with the second it has ended
  pub counted : (ticks : ℕ) → (channel s i).pulses ≡ 0 →
      let t = after_each s (first_pulse i ticks) in 0 < (channel t i).spin → channel t i ≡ with_motion (channel s i) 511 (channel t i).spin 1
  pub both_end : (ticks : ℕ) → (channel s i).pulses ≡ 0 → 0 < (channel (after_each s (first_pulse i ticks)) i).spin → HasEnded s i (both_pulses i ticks)

-- the spin-up of a channel starts with the next tick, and no override is in force or comes within so many ticks. K8: a ramp value leaves 0 "only at
-- wait 0". The shared wait has fallen to 0 in that tick, and with a delay code other than 0 no lower channel would leave 0 in it, which would set the wait anew
pub record StartsSpinUp (s : State) (i ticks : ℕ) : Type 0 where
  pub channel-is : OneOfSix s i
  pub ends-early : ends_early s.start.modification ≡ true
  pub not-running : (channel s i).spin ≡ 0
  pub due : spin_up_due (channel s i) ≡ true
  pub not-overridden : overridden (conditions_of s) (channel s i) ≡ false
  pub none-coming : (watchdog_code s.registers.control ≡ 0 → ⊥) → s.timer.expired ≡ false → s.timer.idle + ticks < idle_limit s
  pub wait-over : s.timer.wait ≤ 1
  pub none_before : (delay_code s.registers.options ≡ 0 → ⊥) → (n : ℕ) → n < i →
      leaves_zero (rule_at (conditions_of s) (clock_after s.timer.clock 1)) (channel s n) ≡ false

-- ticks after the one that starts it: it runs, and "The count of pulses begins anew with each spin-up"
module _ (s : State) (i more : ℕ) where
  abbrev pub started : State
  started = after_each s (Ticks (1 + more) ∷ [])

  pub record HasStarted : Type 0 where
    pub runs : SpinsUp started i
    pub anew : channel started i ≡ with_motion (channel s i) 511 (spin_ticks (spin_code (channel s i).config) - more) 0
