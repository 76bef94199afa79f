-- "Trials on both sides": those that the paper marks (M), a single list with a single claim over it.
use Rattle.std.specs.Prelude.{ℕ, ◌+◌, ◌*◌, ◌/◌, ◌%◌, ◌≤◌, ◌<◌, ◌≡◌, Bool, true, false, List, [], ◌∷◌, map, leb, length, take}
use Rattle.demands.specs.Types.{State, Ok, Rpm, Tachometer}
use Rattle.rules.specs.State.{channel}
use Rattle.rules.specs.Registers.{spin_code, rate_code, asymmetric, watchdog_code, tachometer_enabled, queue_code}
use Rattle.rules.specs.Duty.{conditions_of}
use Rattle.rules.specs.Valid.{valid_of}
use Rattle.rules.specs.Read.{read_of}
use Rattle.rules.specs.Tick.{overridden, ticks_passed}
use Rattle.demands.specs.Elapsed.{duty_at}
use Rattle.rules.specs.Tachometer.{stored_count, judged, is_bad, result_of}
use Rattle.rules.specs.Speed.{speed_of}
use Rattle.rules.specs.Make.{after_each}

-- ---- the trials

-- where a ramp trial begins
pub record Begin : Type 0 where
  pub ramp : ℕ
  pub target : ℕ
  pub rate : ℕ
  pub falls : Bool
  pub spin-up : ℕ
  pub clock : ℕ

-- what is seen after so many ticks: the duty, or the clock
pub data Seen : Type 0 where
  duty-after : ℕ → ℕ → Seen
  clock-after : ℕ → ℕ → Seen

pub data Trial : Type 0 where
  ramps : Begin → List Seen → Trial
  -- a call that passes no ticks
  stays : Trial
  -- a watchdog code; the ticks after which it has not expired, and those after which it has
  expires : ℕ → ℕ → ℕ → Trial
  -- an output duty and its word; a count and the word that it is stored as
  shown : ℕ → ℕ → Trial
  stored : ℕ → ℕ → Trial
  -- a queue code, judged results (true is bad), and the one with which the fault bit comes
  queues : ℕ → List Bool → ℕ → Trial
  -- range code, pulses and count, and the speed
  turns : ℕ → ℕ → ℕ → ℕ → Trial

-- "Ramp 100, target 110, code 3, clock 6"
abbrev pub rising : Begin
rising = record { ramp = 100; target = 110; rate = 3; falls = false; spin-up = 0; clock = 6 }

-- "Ramp 110, target 100, code 3, asymmetric, clock 6"
abbrev pub falling : Begin
falling = record { ramp = 110; target = 100; rate = 3; falls = true; spin-up = 0; clock = 6 }

-- "Clock 4,294,967,294, ramp 100, target 101, code 3"
abbrev pub wrapping : Begin
wrapping = record { ramp = 100; target = 101; rate = 3; falls = false; spin-up = 0; clock = 4294967294 }

-- "Ramp 0, target 200, spin-up code 1, rate code 1, clock 0, no override"
abbrev pub starting : Begin
starting = record { ramp = 0; target = 200; rate = 1; falls = false; spin-up = 1; clock = 0 }

abbrev pub trials : List Trial
trials =
    -- "109 after 37 ticks, 110 after 38"
    ramps rising (duty-after 37 109 ∷ duty-after 38 110 ∷ [])
    -- "reached after 74 and not after 73"
    ∷ ramps falling (duty-after 73 101 ∷ duty-after 74 100 ∷ [])
    -- "after 2 ticks clock 0, ramp 101"
    ∷ ramps wrapping (clock-after 2 0 ∷ duty-after 2 101 ∷ [])
    -- "Jump of 0: nothing changes"
    ∷ stays
    -- "511 after 257 ticks, 510 after 258, 200 after 568"
    ∷ ramps starting (duty-after 257 511 ∷ duty-after 258 510 ∷ duty-after 568 200 ∷ [])
    -- "Watchdog code 1, idle 0: not expired after 2,559 ticks, expired after 2,560"
    ∷ expires 1 2559 2560
    -- "Output duty 511 reads FFh, 81h; output duty 200 reads 64h, 00h"
    ∷ shown 511 0xFF81
    ∷ shown 200 0x6400
    -- "Count 1,000 is stored as 7D00h, count 5,000 as FFE0h"
    ∷ stored 1000 0x7D00
    ∷ stored 5000 0xFFE0
    -- "Queue code 2, fault bit clear, queue count 0, judged results three bad, one good, four bad: the fault bit comes with the eighth"
    ∷ queues 2 (true ∷ true ∷ true ∷ false ∷ true ∷ true ∷ true ∷ true ∷ []) 8
    -- "Range code 2, pulses 2, count 1,000: speed 983"
    ∷ turns 2 2 1000 983
    ∷ []

-- ---- what a trial begins with, of a state and the channel with index i

-- "Each ramp trial begins with no override in force, no spin-up running and the watchdog off; spin-up code 0 and no asymmetric fall
-- unless said". K8: "The ramp trials begin at wait 0, with every other channel's ramp value and target duty 0"
pub record Begins (b : Begin) (s : State) (i : ℕ) : Type 0 where
  pub is-valid : valid_of s ≡ true
  pub exists : i < length s.channels
  pub not-overridden : overridden (conditions_of s) (channel s i) ≡ false
  pub not-running : (channel s i).spin ≡ 0
  pub watchdog-off : watchdog_code s.registers.control ≡ 0
  pub ramp : (channel s i).ramp ≡ b.ramp
  pub target : (channel s i).target ≡ b.target
  pub rate : rate_code (channel s i).dynamics ≡ b.rate
  pub falls : asymmetric (channel s i).dynamics ≡ b.falls
  pub spin-up : spin_code (channel s i).config ≡ b.spin-up
  pub clock : s.timer.clock ≡ b.clock
  pub wait : s.timer.wait ≡ 0
  pub others : (n : ℕ) → (n ≡ i → ⊥) → ((channel s n).ramp ≡ 0) × ((channel s n).target ≡ 0)

pub record Watched (code : ℕ) (s : State) : Type 0 where
  pub is-valid : valid_of s ≡ true
  pub watchdog : watchdog_code s.registers.control ≡ code
  pub idle : s.timer.idle ≡ 0

-- one of six channels of a valid state
pub record OneOfSix (s : State) (i : ℕ) : Type 0 where
  pub is-valid : valid_of s ≡ true
  pub six : length s.channels ≡ 6
  pub below : i < 6

pub record Shows (output : ℕ) (s : State) (i : ℕ) : Type 0 where
  pub channel-is : OneOfSix s i
  pub output-is : duty_at s i ≡ output

pub record Enabled (s : State) (i : ℕ) : Type 0 where
  pub channel-is : OneOfSix s i
  pub enabled : tachometer_enabled (channel s i).config ≡ true

-- counts that are judged just so
pub record Queued (code : ℕ) (results : List Bool) (s : State) (i : ℕ) (counts : List ℕ) : Type 0 where
  pub enabled-is : Enabled s i
  pub judged-is : judged (conditions_of s) (channel s i) ≡ true
  pub queue-code : queue_code s.registers.options ≡ code
  pub no-fault : (channel s i).fault ≡ false
  pub no-queue : (channel s i).queue ≡ 0
  pub bad-or-good : map (λ count. is_bad (channel s i) (stored_count count)) counts ≡ results

-- ---- what a trial says

-- each of a list
abbrev pub Each : {A : Type 0} → (A → Type 0) → List A → Type 0
Each P [] = Unit {0}
Each P (x ∷ xs) = P x × Each P xs

-- the duty is the output duty and the ramp value as well
abbrev pub Sees : State → ℕ → Seen → Type 0
Sees s i (duty-after ticks d) = (duty_at (ticks_passed s ticks).state i ≡ d) × ((channel (ticks_passed s ticks).state i).ramp ≡ d)
Sees s i (clock-after ticks t) = (ticks_passed s ticks).state.timer.clock ≡ t

-- the two bytes of a word, from its first address on
pub record Reads (s : State) (a word : ℕ) : Type 0 where
  pub high : (read_of s a).byte ≡ word / 256
  pub low : (read_of s (a + 1)).byte ≡ word % 256

-- results of one channel, one after the other
abbrev pub after_results : State → ℕ → List ℕ → State
after_results s i counts = after_each s (map (Tachometer (i + 1)) counts)

-- for every valid state and channel that begins so
abbrev pub Holds : Trial → Type 0
Holds (ramps b seen) = (s : State) (i : ℕ) → Begins b s i → Each (Sees s i) seen
Holds stays = (s : State) → (ticks_passed s 0).state ≡ s
Holds (expires code not_yet by-then) =
    (s : State) → Watched code s →
    ((ticks_passed s not_yet).state.timer.expired ≡ false) × ((ticks_passed s by-then).state.timer.expired ≡ true)
Holds (shown output word) = (s : State) (i : ℕ) → Shows output s i → Reads s (0x30 + 2 * i) word
Holds (stored count word) = (s : State) (i : ℕ) → Enabled s i → Reads (result_of s (i + 1) count).state (0x18 + 2 * i) word
Holds (queues code results last) =
    (s : State) (i : ℕ) (counts : List ℕ) → Queued code results s i counts →
    (k : ℕ) → k ≤ length counts → (channel (after_results s i (take k counts)) i).fault ≡ leb last k
Holds (turns range pulses count speed) = speed_of range pulses count ≡ Ok (Rpm speed)

-- there is a state that begins so
abbrev pub Met : Trial → Type 0
Met (ramps b seen) = (s : State) × (i : ℕ) × Begins b s i
Met stays = State
Met (expires code not_yet by-then) = (s : State) × Watched code s
Met (shown output word) = (s : State) × (i : ℕ) × Shows output s i
Met (stored count word) = (s : State) × (i : ℕ) × Enabled s i
Met (queues code results last) = (s : State) × (i : ℕ) × (counts : List ℕ) × Queued code results s i counts
Met (turns range pulses count speed) = Unit {0}

-- the claim
abbrev pub TrialsHold : Type 0
TrialsHold = Each (λ trial. Holds trial × Met trial) trials
