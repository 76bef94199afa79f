-- "State numbers of `dump` and `load`": the table of them, the numbers that a state is, and the state that numbers make.
use Rattle.std.specs.Prelude.{ℕ, zero, suc, ◌+◌, ◌*◌, ◌/◌, ◌%◌, ◌≤◌, ◌≡◌, Bool, List, [], ◌∷◌, ◌++◌, map, length, get_or, drop}
use Rattle.rules.specs.declared.Channel.{Channel}
use Rattle.rules.specs.declared.Registers.{Registers}
use Rattle.rules.specs.declared.StartValues.{StartValues}
use Rattle.rules.specs.declared.Timer.{Timer}
use Rattle.rules.specs.declared.State.{State}
use Rattle.rules.specs.Basics.{flag, bit}
use Rattle.rules.specs.Read.{control_byte}
use Rattle.rules.specs.Duty.{fault_byte}
use Rattle.lent.specs.Values.{number, byte_of, word_of}

-- ---- the table

-- a number, and the most that it can be
pub record Row (A : Type 0) : Type 0 where
  pub most : ℕ
  pub value : A → ℕ

abbrev pub row : {A : Type 0} → ℕ → (A → ℕ) → Row A
row most value = record { most = most; value = value }

-- "clock pin control frequency faults mask2 mask1 options expired idle start_watchdog start_spinup start_target
-- start_frequency", and K7: "the modification after `start_frequency`"; K8: "the shared wait after the modification (16 bits)"; the
-- registers "as they read". "What the state can hold: clock 32 bits; pin, expired 0 or 1; faults 0 to 63; idle, start_target, count, ramp,
-- spin, target, target_count 16 bits; the rest 8 bits"
abbrev pub box_table : List (Row State)
box_table =
    row 4294967295 (λ s. s.timer.clock)
    ∷ row 1 (λ s. flag s.pin)
    ∷ row 255 (λ s. control_byte s.registers.control s.timer.status)
    ∷ row 255 (λ s. s.registers.frequency)
    ∷ row 63 (λ s. fault_byte s.channels)
    ∷ row 255 (λ s. s.registers.mask2)
    ∷ row 255 (λ s. s.registers.mask1)
    ∷ row 255 (λ s. s.registers.options)
    ∷ row 1 (λ s. flag s.timer.expired)
    ∷ row 65535 (λ s. s.timer.idle)
    ∷ row 255 (λ s. s.start.watchdog)
    ∷ row 255 (λ s. s.start.spinup)
    ∷ row 65535 (λ s. s.start.target)
    ∷ row 255 (λ s. s.start.frequency)
    ∷ row 255 (λ s. s.start.modification)
    ∷ row 65535 (λ s. s.timer.wait)
    ∷ []

-- "then for channels 1 to 6: config dynamics count ramp spin target target_count window queue", and K7: "after each channel's `queue` its
-- count of pulses"
abbrev pub channel_table : List (Row Channel)
channel_table =
    row 255 (λ ch. ch.config)
    ∷ row 255 (λ ch. ch.dynamics)
    ∷ row 65535 (λ ch. ch.count)
    ∷ row 65535 (λ ch. ch.ramp)
    ∷ row 65535 (λ ch. ch.spin)
    ∷ row 65535 (λ ch. ch.target)
    ∷ row 65535 (λ ch. ch.target_count)
    ∷ row 255 (λ ch. ch.window)
    ∷ row 255 (λ ch. ch.queue)
    ∷ row 255 (λ ch. ch.pulses)
    ∷ []

-- its two columns
abbrev pub limits_in : {A : Type 0} → List (Row A) → List ℕ
limits_in table = map (λ r. r.most) table

abbrev pub numbers_in : {A : Type 0} → List (Row A) → A → List ℕ
numbers_in table x = map (λ r. r.value x) table

-- as many numbers as limits, each no larger than its own
unfoldable pub Within : List ℕ → List ℕ → Type 0
Within [] [] = Unit {0}
Within [] (n ∷ numbers) = ⊥
Within (most ∷ limits) [] = ⊥
Within (most ∷ limits) (n ∷ numbers) = (n ≤ most) × Within limits numbers

-- the numbers of a table, which are within its limits
pub record Numbers {A : Type 0} (table : List (Row A)) (x : A) (numbers : List ℕ) : Type 0 where
  pub each : numbers ≡ numbers_in table x
  pub within : Within (limits_in table) numbers

-- ---- the numbers of a state, and the most that each can be

-- how many they are
abbrev pub number_count : ℕ
number_count = length box_table + 6 * length channel_table

unfoldable pub channels_numbers : List Channel → List ℕ
channels_numbers [] = []
channels_numbers (ch ∷ channels) = numbers_in channel_table ch ++ channels_numbers channels

unfoldable pub state_numbers : State → List ℕ
state_numbers s = numbers_in box_table s ++ channels_numbers s.channels

unfoldable pub channels_limits : ℕ → List ℕ
channels_limits zero = []
channels_limits (suc n) = limits_in channel_table ++ channels_limits n

unfoldable pub limits : List ℕ
limits = limits_in box_table ++ channels_limits 6

-- number i can be so much, and past the last 0
abbrev pub limit_at : ℕ → ℕ
limit_at i = get_or limits i 0

-- ---- the state that numbers make. Of a number larger than its limit the low bits are taken

abbrev pub long_of : ℕ → ℕ
long_of n = n % 4294967296

-- a channel of its own numbers, and its fault
unfoldable pub channel_from : Bool → List ℕ → Channel
channel_from fault v =
    record {
      config = byte_of (number v 0);
      dynamics = byte_of (number v 1);
      window = byte_of (number v 7);
      target = word_of (number v 5);
      target_count = word_of (number v 6);
      count = word_of (number v 2);
      queue = byte_of (number v 8);
      fault = fault;
      ramp = word_of (number v 3);
      spin = word_of (number v 4);
      pulses = byte_of (number v 9);
    }

-- the channel with index i: where its numbers begin; its fault is bit i of `faults`
abbrev pub own_from : ℕ → ℕ
own_from i = length box_table + i * length channel_table

unfoldable pub channel_at : List ℕ → ℕ → Channel
channel_at v i = channel_from (bit i (number v 4)) (drop (own_from i) v)

-- "bit 0 of `control` is the status bit"
unfoldable pub registers_from : List ℕ → Registers
registers_from v =
    record {
      control = byte_of (number v 2) / 2 * 2;
      frequency = byte_of (number v 3);
      mask2 = byte_of (number v 5);
      mask1 = byte_of (number v 6);
      options = byte_of (number v 7);
    }

unfoldable pub timer_from : List ℕ → Timer
timer_from v =
    record {
      clock = long_of (number v 0);
      idle = word_of (number v 9);
      expired = bit 0 (number v 8);
      status = bit 0 (number v 2);
      wait = word_of (number v 15);
    }

unfoldable pub start_from : List ℕ → StartValues
start_from v =
    record {
      watchdog = byte_of (number v 10);
      spinup = byte_of (number v 11);
      target = word_of (number v 12);
      frequency = byte_of (number v 13);
      modification = byte_of (number v 14);
    }

unfoldable pub state_from : List ℕ → State
state_from v =
    record {
      channels = map (channel_at v) (0 ∷ 1 ∷ 2 ∷ 3 ∷ 4 ∷ 5 ∷ []);
      registers = registers_from v;
      pin = bit 0 (number v 1);
      start = start_from v;
      timer = timer_from v;
    }
