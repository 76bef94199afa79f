-- The paper's trials hold, for every state and channel that begins so, and there is one for each.
use Prim.Native.Nat.{ℕ, zero, suc, ◌+◌, ◌-◌, ◌*◌, ◌/◌, ◌≤◌, ◌<◌}
use mathlib.Core.Path.{◌≡◌, refl, sym, ◌∙◌, ap}
use mathlib.Core.Bool.{Bool, true, false, not, ◌&&◌, false≢true, beq}
use mathlib.Core.List.{List, [], ◌∷◌, map}
use native.Mathlib.Omega.{arith}
use lib.Dec.{leb, ltb, eqb}
use lib.ListN.{length, get_or, take, replicate, length-map}
use borrow.Author.Tests.{lt-ltb, le-ltb, eq-eqb, eqb-false}
use Rattle.demands.specs.Types.{Channel, Results, State, Conditions, Answer, StatusRegister, Count, Output, ReadOnly}
use Rattle.rules.specs.Basics.{flag}
use Rattle.rules.specs.State.{blank, channel, registers, start_values, with_settings, with_motion, with_channels, with_registers}
use Rattle.rules.specs.Registers.{spin_code, rate_code, asymmetric, tachometer_enabled}
use Rattle.rules.specs.Words.{count_word, output_word, word_byte}
use Rattle.rules.specs.Map.{place_at, status_at}
use Rattle.rules.specs.Time.{watchdog_limit, spin_ticks, rate_period}
use Rattle.rules.specs.Duty.{conditions_of, override_by, output_duty}
use Rattle.rules.specs.Valid.{valid_channel, valid_pulses, valid_registers, valid_start, valid_timer, valid_of}
use Rattle.rules.specs.Start.{start_channel, as_at_start, zero_state}
use Rattle.rules.specs.Read.{status_byte, place_byte, read_at, read_of}
use Rattle.rules.specs.Tick.{wanted, spin_up_due, overridden, tick, iterate, ticks_passed}
use Rattle.rules.specs.Tachometer.{queue_length, stored_count, judged, is_bad, result_taken, channel_result, result_of}
use Rattle.rules.specs.Speed.{speed_range, speed_refused, speed_of}
use Rattle.demands.specs.Trials.{Begin, duty-after, Begins, Watched, OneOfSix, Shows, Enabled, Queued, Sees, Reads, after_results, rising, falling, wrapping, starting, TrialsHold}
use Rattle.rules.proofs.Tests.{flag-le, by-test, choice, all-below, same}
use Rattle.laws.proofs.Valid.{parts}
use Rattle.laws.proofs.Ramp.{approach, multiples}
use Rattle.laws.proofs.ChannelTicks.{channel_ticks, ticks-ramp, ticks-due-past, full-not-due}
use Rattle.laws.proofs.StateTicks.{counting, ahead, ticks-ahead, clock_at, expiring-ticks}
use Rattle.demands.proofs.Elapsed.{Own, only-own, channel-ahead, duty-ahead}
use Rattle.laws.proofs.Keep.{passed-valid, passed-refused}
use Rattle.laws.proofs.Targets.{low_of}
use Rattle.demands.proofs.Queue.{channel-after, still-six, fault_after, Ready, runs}

-- the state that a call leaves, from a valid one
passes : (s : State) (n : ℕ) → valid_of s ≡ true → (ticks_passed s n).state ≡ iterate n tick s
passes s n v = ap (λ (a : Answer). a.state) (passed-valid s n v)

-- ---- the ramp

-- whether a spin-up is due; the ramp value after n ticks, with none due, and past one
abbrev due_from : Begin → Bool
due_from b = eqb b.ramp 0 && ltb 0 b.target && ltb 0 b.spin-up

abbrev ramped_from : Begin → ℕ → ℕ
ramped_from b n =
    let period = rate_period b.rate (b.falls && ltb b.target b.ramp) in
    approach b.ramp b.target (multiples period b.clock n)

abbrev spun_from : Begin → ℕ → ℕ
spun_from b n =
    let period = rate_period b.rate (b.falls && ltb b.target 511) in
    let spin = spin_ticks b.spin-up in
    approach 511 b.target (multiples period (b.clock + 1 + spin) (n - 1 - spin))

module _ (b : Begin) (s : State) (i : ℕ) (c : Begins b s i) where
  off : (n : ℕ) → (ticks_passed s n).state ≡ ahead s n
  off n =
      passes s n c.is-valid
      ∙ ticks-ahead s n (λ on. absurd (false≢true (rw (eq-eqb _ 0 c.watchdog-off) at on)))

  -- at wait 0 and with the others at 0, nothing holds the channel up
  own : (n : ℕ) → Own s i n
  own = only-own s i c.exists c.wait c.others

  sees-duty : (n d pulses : ℕ) → channel_ticks false n s.timer.clock (channel s i) ≡ with_motion (channel s i) d 0 pulses →
      Sees s i (duty-after n d)
  sees-duty n d pulses e = (
    ap (λ x. duty_of x) (off n) ∙ duty-ahead s i c.not-overridden n (own n) d 0 pulses e refl,
    ap (λ x. (channel x i).ramp) (off n) ∙ ap (λ (x : Channel). x.ramp) (channel-ahead s i c.not-overridden n (own n) ∙ e),
  )
    where
      duty_of : State → ℕ
      duty_of x = output_duty (conditions_of x) (channel x i)

  due-is : spin_up_due (channel s i) ≡ due_from b
  unfolding spin_up_due wanted
  due-is = rw (c.ramp, c.target, c.spin-up) refl

  -- with no spin-up due, and with one
  sees-ramp : due_from b ≡ false → eqb b.rate 0 ≡ false → (n : ℕ) → Sees s i (duty-after n (ramped_from b n))
  unfolding wanted
  sees-ramp no_spin rate n =
      sees-duty n _ (channel s i).pulses
      (ticks-ramp s.timer.clock (channel s i) c.not-running (due-is ∙ no_spin) n (λ z. eqb-false _ 0 rate (sym c.rate ∙ z))
      ∙ rw (c.ramp, c.target, c.rate, c.falls, c.clock, c.not-running) refl)

  sees-spin-up : due_from b ≡ true → eqb b.rate 0 ≡ false → (n : ℕ) → spin_ticks b.spin-up + 1 ≤ n → Sees s i (duty-after n (spun_from b n))
  unfolding wanted
  sees-spin-up spin rate n l =
      let full = with_motion (channel s i) 511 (channel s i).spin 0 in
      sees-duty n _ 0
      (ticks-due-past n s.timer.clock (channel s i) c.not-running (due-is ∙ spin) (omega arith) (rw c.spin-up (omega arith))
      ∙ ticks-ramp _ full c.not-running (full-not-due (channel s i) (channel s i).spin 0) _ (λ z. eqb-false _ 0 rate (sym c.rate ∙ z))
      ∙ rw (c.target, c.rate, c.falls, c.spin-up, c.clock, c.not-running) refl)

-- ---- the watchdog

module _ (s : State) (c : Watched 1 s) where
  not-expired : s.timer.expired ≡ false
  unfolding valid_timer watchdog_limit
  not-expired =
      by-test s.timer.expired
      (λ e. absurd (false≢true (rw (c.watchdog, e, c.idle) at (parts s c.is-valid).timer)))
      (λ e. e)

  counts : counting s ≡ true
  counts = rw (c.watchdog, not-expired) refl

  not_yet : (ticks_passed s 2559).state.timer.expired ≡ false
  unfolding watchdog_limit ahead
  not_yet =
      ap (λ (x : State). x.timer.expired)
      (passes s 2559 c.is-valid ∙ ticks-ahead s 2559 (λ on. rw (c.watchdog, c.idle) (omega arith)))
      ∙ not-expired

  by-then : (ticks_passed s 2560).state.timer.expired ≡ true
  unfolding watchdog_limit
  by-then =
      ap (λ (x : State). x.timer.expired)
      (passes s 2560 c.is-valid
      ∙ expiring-ticks s counts (rw (c.watchdog, c.idle) (omega arith)) 2560 (rw (c.watchdog, c.idle) (omega arith)))

-- ---- words

read-status : (s : State) (a : ℕ) (r : StatusRegister) → valid_of s ≡ true → place_at a ≡ ReadOnly r → (read_of s a).byte ≡ status_byte s r
unfolding read_of read_at place_byte
read-status s a r v here = rw (v, here) refl

-- the bytes of channel i's output duty and of its count
output-place : (i a : ℕ) (low : Bool) → i < 6 → a ≡ 0x30 + 2 * i + flag low → place_at a ≡ ReadOnly (Output i low)
unfolding place_at status_at
output-place i a low h e =
    let index : (a - 0x30) / 2 ≡ i = omega (arith, flag-le low) in
    rw (le-ltb a 0x18 (omega arith), lt-ltb a 0x40 (omega (arith, flag-le low)), le-ltb a 0x24 (omega arith), le-ltb a 0x30 (omega arith), lt-ltb a 0x3C (omega (arith, flag-le low)))
    (rw (index, low_of i (a - 0x30) low (omega arith)) refl)

count-place : (i a : ℕ) (low : Bool) → i < 6 → a ≡ 0x18 + 2 * i + flag low → place_at a ≡ ReadOnly (Count i low)
unfolding place_at status_at
count-place i a low h e =
    let index : (a - 0x18) / 2 ≡ i = omega (arith, flag-le low) in
    rw (le-ltb a 0x18 (omega arith), lt-ltb a 0x40 (omega (arith, flag-le low)), lt-ltb a 0x24 (omega (arith, flag-le low)))
    (rw (index, low_of i (a - 0x18) low (omega arith)) refl)

module _ (s : State) (i : ℕ) where
  shows-word : (output : ℕ) → Shows output s i → Reads s (0x30 + 2 * i) (output_word output)
  unfolding status_byte
  shows-word output c =
      let o = c.channel-is in
      record {
        high = read-status s _ (Output i false) o.is-valid (output-place i _ false o.below (omega arith)) ∙ ap (λ d. word_byte false (output_word d)) c.output-is;
        low = read-status s _ (Output i true) o.is-valid (output-place i _ true o.below (omega arith)) ∙ ap (λ d. word_byte true (output_word d)) c.output-is;
      }

-- ---- a stored count

taken-stored : (k : Conditions) (most : ℕ) (ch : Channel) (count : ℕ) → tachometer_enabled ch.config ≡ true →
    (channel_result k most ch count).count ≡ stored_count count
unfolding channel_result result_taken
taken-stored k most ch count e =
    rw e
    (choice (λ (x : Results). x.count ≡ stored_count count) (not (judged k ch)) _ _ (λ _. refl)
    (λ _. choice (λ (x : Results). x.count ≡ stored_count count) (is_bad ch (stored_count count)) _ _ (λ _. refl) (λ _. refl)))

stores-word : (s : State) (i count : ℕ) → Enabled s i → Reads (result_of s (i + 1) count).state (0x18 + 2 * i) (count_word (stored_count count))
unfolding status_byte
stores-word s i count c =
    let o = still-six s i count c.channel-is in
    let told = ap (λ (x : Channel). x.count) (channel-after s i count c.channel-is) ∙ taken-stored _ _ (channel s i) count c.enabled in
    record {
      high = read-status _ _ (Count i false) o.is-valid (count-place i _ false o.below (omega arith)) ∙ ap (λ n. word_byte false (count_word n)) told;
      low = read-status _ _ (Count i true) o.is-valid (count-place i _ true o.below (omega arith)) ∙ ap (λ n. word_byte true (count_word n)) told;
    }

-- ---- the queue

map-take : {A B : Type 0} (f : A → B) (k : ℕ) (xs : List A) → map f (take k xs) ≡ take k (map f xs)
map-take f zero xs = refl
map-take f (suc k) [] = refl
map-take f (suc k) (x ∷ xs) = ap (λ ys. f x ∷ ys) (map-take f k xs)

-- three bad, one good, four bad
abbrev pattern : List Bool
pattern = true ∷ true ∷ true ∷ false ∷ true ∷ true ∷ true ∷ true ∷ []

with-the-eighth : (s : State) (i : ℕ) (counts : List ℕ) → Queued 2 pattern s i counts →
    (k : ℕ) → k ≤ length counts → (channel (after_results s i (take k counts)) i).fault ≡ leb 8 k
unfolding queue_length
with-the-eighth s i counts c k l =
    let eight : length counts ≡ 8 = sym (length-map counts _) ∙ ap length c.bad-or-good in
    let ready : Ready s i 4 0 = record {
      one-of-six = c.enabled-is.channel-is;
      enabled = c.enabled-is.enabled;
      judged-is = c.judged-is;
      length-is = ap queue_length c.queue-code;
      no-fault = c.no-fault;
      queue-is = c.no-queue;
    } in
    runs s i 4 0 (take k counts) ready
    ∙ ap (fault_after 4 0) (map-take _ k counts ∙ ap (take k) c.bad-or-good)
    ∙ same _ _ (all-below 9 (λ n. beq (fault_after 4 0 (take n pattern)) (leb 8 n)) refl k (omega (arith, eight)))

-- ---- a state for each

-- a channel that begins so and five with every number 0, with a configuration byte and an options byte
abbrev example : Begin → ℕ → ℕ → State
example b config options =
    let v = start_values 0 0 b.target 0 0 in
    let dynamics = b.rate * 4 + flag b.falls * 2 in
    let ch = with_motion (with_settings (start_channel v) config dynamics 0 b.target 480) b.ramp 0 0 in
    with_channels (with_registers (as_at_start v b.clock true) (registers 0x20 0 0x3F 0x3F options)) (ch ∷ replicate 5 blank)

-- each of those, and what stands past the last
all-blank : (m n : ℕ) → get_or (replicate m blank) n blank ≡ blank
all-blank zero n = refl
all-blank (suc m) zero = refl
all-blank (suc m) (suc n) = all-blank m n

others : (b : Begin) (config n : ℕ) → (n ≡ 0 → ⊥) → let s = example b config 0x45 in ((channel s n).ramp ≡ 0) × ((channel s n).target ≡ 0)
others b config zero other = absurd (other refl)
others b config (suc n) other = (ap (λ (x : Channel). x.ramp) (all-blank 5 n), ap (λ (x : Channel). x.target) (all-blank 5 n))

begins-example : (b : Begin) (config : ℕ) → let s = example b config 0x45 in
    valid_of s ≡ true → overridden (conditions_of s) (channel s 0) ≡ false → rate_code (channel s 0).dynamics ≡ b.rate →
    asymmetric (channel s 0).dynamics ≡ b.falls → spin_code (channel s 0).config ≡ b.spin-up → Begins b s 0
begins-example b config valid free rate falls spin =
    record {
      is-valid = valid;
      exists = omega arith;
      not-overridden = free;
      not-running = refl;
      watchdog-off = refl;
      ramp = refl;
      target = refl;
      rate = rate;
      falls = falls;
      spin-up = spin;
      clock = refl;
      wait = refl;
      others = others b config;
    }

one-of-six-example : (s : State) → valid_of s ≡ true → length s.channels ≡ 6 → OneOfSix s 0
one-of-six-example s valid six = record { is-valid = valid; six = six; below = omega arith }

-- ---- all of them

infixr 5 ◌also◌
◌also◌ : {A B : Type 0} → A → B → A × B
a also b = (a, b)

nothing-passes : (s : State) → (ticks_passed s 0).state ≡ s
unfolding iterate
nothing-passes s =
    by-test (valid_of s) (λ v. passes s 0 v) (λ v. ap (λ (a : Answer). a.state) (passed-refused s 0 v))

-- a channel that stands at 200, its tachometer enabled, queue code 2
abbrev pub steady : State
steady = example (record { ramp = 200; target = 200; rate = 3; falls = false; spin-up = 0; clock = 0 }) 0x08 0x46

steady-enabled : Enabled steady 0
unfolding valid_of valid_registers valid_start valid_timer valid_channel valid_pulses
steady-enabled = record { channel-is = one-of-six-example steady refl refl; enabled = refl }

abbrev watched : State
watched = as_at_start (start_values 1 0 0 0 0) 0 true

pub trials-hold : TrialsHold
unfolding valid_of valid_registers valid_start valid_timer valid_channel valid_pulses conditions_of override_by output_duty judged is_bad spin_ticks watchdog_limit approach ahead clock_at speed_of speed_refused speed_range
trials-hold =
    ((λ s i c. sees-ramp rising s i c refl refl 37 also sees-ramp rising s i c refl refl 38 also tt)
    also (example rising 0 0x45, 0, begins-example rising 0 refl refl refl refl refl))
    also ((λ s i c. sees-ramp falling s i c refl refl 73 also sees-ramp falling s i c refl refl 74 also tt)
    also (example falling 0 0x45, 0, begins-example falling 0 refl refl refl refl refl))
    also ((λ s i c. (ap (λ (x : State). x.timer.clock) (off wrapping s i c 2) ∙ rw c.clock refl) also sees-ramp wrapping s i c refl refl 2 also tt)
    also (example wrapping 0 0x45, 0, begins-example wrapping 0 refl refl refl refl refl))
    also (nothing-passes also zero_state)
    also ((λ s i c. sees-spin-up starting s i c refl refl 257 (omega arith) also sees-spin-up starting s i c refl refl 258 (omega arith) also sees-spin-up starting s i c refl refl 568 (omega arith) also tt)
    also (example starting 0x20 0x45, 0, begins-example starting 0x20 refl refl refl refl refl))
    also ((λ s c. not_yet s c also by-then s c) also (watched, record { is-valid = refl; watchdog = refl; idle = refl }))
    also ((λ s i c. shows-word s i 511 c) also (zero_state, 0, record { channel-is = one-of-six-example zero_state refl refl; output-is = refl }))
    also ((λ s i c. shows-word s i 200 c) also (steady, 0, record { channel-is = one-of-six-example steady refl refl; output-is = refl }))
    also ((λ s i c. stores-word s i 1000 c) also (steady, 0, steady-enabled))
    also ((λ s i c. stores-word s i 5000 c) also (steady, 0, steady-enabled))
    also (with-the-eighth also (
      steady,
      0,
      1000 ∷ 1000 ∷ 1000 ∷ 100 ∷ 1000 ∷ 1000 ∷ 1000 ∷ 1000 ∷ [],
      record {
        enabled-is = steady-enabled;
        judged-is = refl;
        queue-code = refl;
        no-fault = refl;
        no-queue = refl;
        bad-or-good = refl;
      },
    ))
    also (refl also tt)
    also tt
