-- Start gives a valid state, and read and both writes keep a valid state valid.
use Prim.Native.Nat.{ℕ, ◌+◌, ◌*◌, ◌/◌, ◌%◌, ◌<◌}
use mathlib.Core.Path.{◌≡◌, refl, ◌∙◌, ap}
use mathlib.Core.Bool.{Bool, true, false, not, ◌||◌, beq, or-true}
use mathlib.Core.List.{List, map}
use native.Mathlib.Omega.{arith}
use native.Mathlib.Nat.{mod-lt}
use lib.Dec.{leb, ltb, eqb, lit<}
use lib.ListN.{set}
use borrow.Author.Tests.{lt-ltb, eqb-true}
use Rattle.laws.proofs.Types.{Channel, Registers, StartValues, Timer, State, BoxRegister, Control, Frequency, Mask2, Mask1, Options, ChannelRegister, Config, Dynamics, Window, WordRegister, Target, TargetCount, Place, Absent, ReadOnly, Shared, Own, OwnWord, Answer, ReadAnswer}
use Rattle.rules.specs.Basics.{◌implies◌, every, bit, bits}
use Rattle.rules.specs.State.{channel, with_settings, with_channels, with_registers, registers, start_values}
use Rattle.rules.specs.Registers.{standby, watchdog_code, monitor_only, control_kept, dynamics_kept, mask_kept, options_kept, config_refused, target_count}
use Rattle.rules.specs.Words.{shown_in}
use Rattle.rules.specs.Time.{watchdog_limit, ends_early}
use Rattle.rules.specs.Map.{place_at, is_carried}
use Rattle.rules.specs.Valid.{valid_motion, valid_channel, valid_pulses, valid_registers, valid_start, valid_watchdog, valid_timer, valid_of}
use Rattle.rules.specs.Start.{start_channel, as_at_start, zero_state, start_of}
use Rattle.rules.specs.Write.{stopped, channel_written, reset, box_written, written, write_refusal, write_of}
use Rattle.rules.specs.WriteWord.{target_written, word_written, word_refusal, write_word_of}
use Rattle.rules.specs.Read.{after_read, read_at, read_of}
use Rattle.rules.specs.Calls.{accepted, unless_refused, accessed}
use Rattle.rules.proofs.Tests.{by-test, same, choice, and_left, and_both, all_below, all-below, every-weaker, every_map, every-replicate}
use Rattle.laws.proofs.Valid.{parts, valid-of-parts, ChannelParts, channel-parts, valid-of-channel-parts, channel-set, no-pulses, pulses-set, settings-parts, registers-parts, valid-of-registers-parts, start-target-lt, four, of_four, wait-low, valid-timer-of}

-- ---- what a register keeps of a number it keeps again: by a test of every byte, since it looks at the low eight bits alone

module _ (kept : ℕ → ℕ) (low : (b : ℕ) → kept b ≡ kept (b % 256)) where
  kept_again : all_below 256 (λ k. eqb (kept (kept k)) (kept k)) ≡ true → (b : ℕ) → eqb (kept (kept b)) (kept b) ≡ true
  kept_again test b = rw (low b) (all-below 256 (λ k. eqb (kept (kept k)) (kept k)) test (b % 256) (mod-lt b (lit< tt)))

control-low : (b : ℕ) → control_kept b ≡ control_kept (b % 256)
control-low b =
    let seven : b / 128 % 2 ≡ b % 256 / 128 % 2 = omega arith in
    let five : b / 32 % 2 ≡ b % 256 / 32 % 2 = omega arith in
    let three : b / 2 % 8 ≡ b % 256 / 2 % 8 = omega arith in
    omega arith

options-low : (b : ℕ) → options_kept b ≡ options_kept (b % 256)
options-low b =
    let upper : b / 32 % 8 ≡ b % 256 / 32 % 8 = omega arith in
    let lower : b / 1 % 16 ≡ b % 256 / 1 % 16 = omega arith in
    omega arith

control-again : (b : ℕ) → eqb (control_kept (control_kept b)) (control_kept b) ≡ true
control-again = kept_again control_kept control-low refl

dynamics-again : (b : ℕ) → eqb (dynamics_kept (dynamics_kept b)) (dynamics_kept b) ≡ true
dynamics-again = kept_again dynamics_kept (λ b. omega arith) refl

mask-again : (b : ℕ) → eqb (mask_kept (mask_kept b)) (mask_kept b) ≡ true
mask-again = kept_again mask_kept (λ b. omega arith) refl

options-again : (b : ℕ) → eqb (options_kept (options_kept b)) (options_kept b) ≡ true
options-again = kept_again options_kept options-low refl

standby-kept : (b : ℕ) → bit 7 (control_kept b) ≡ bit 7 b
standby-kept b =
    let low : b % 256 / 128 % 2 ≡ b / 128 % 2 = omega arith in
    ap (bit 7) (control-low b)
    ∙ same _ _ (all-below 256 (λ k. beq (bit 7 (control_kept k)) (bit 7 k)) refl (b % 256) (mod-lt b (lit< tt)))
    ∙ ap (λ n. eqb n 1) low

-- ---- the timer after an accepted access

fresh-timer : (code : ℕ) (t : Timer) → t.idle ≡ 0 → t.expired ≡ false → leb t.wait 2048 ≡ true → code < 4 → valid_timer code t ≡ true
unfolding watchdog_limit
fresh-timer code t i e w h = valid-timer-of code t (rw (i, e) (all-below 4 (λ k. valid_watchdog k 0 false) refl code h)) w

-- a state whose watchdog has just been fed, valid but for its timer: so it is valid
record Fed (s : State) : Type 0 where
  registers : valid_registers s.registers ≡ true
  start : valid_start s.start ≡ true
  channels : every (valid_channel (standby s.registers.control)) s.channels ≡ true
  pulses : every (valid_pulses (ends_early s.start.modification)) s.channels ≡ true
  idle : s.timer.idle ≡ 0
  expired : s.timer.expired ≡ false
  wait : leb s.timer.wait 2048 ≡ true

fed-valid : (s : State) → Fed s → valid_of s ≡ true
fed-valid s f =
    valid-of-parts s
    (record {
      registers = f.registers;
      start = f.start;
      timer = fresh-timer (watchdog_code s.registers.control) s.timer f.idle f.expired f.wait (omega arith);
      channels = f.channels;
      pulses = f.pulses;
    })

accessed-fed : (s : State) → valid_of s ≡ true → Fed (accessed s)
accessed-fed s e =
    let p = parts s e in
    record { registers = p.registers; start = p.start; channels = p.channels; pulses = p.pulses; idle = refl; expired = refl; wait = wait-low _ s.timer p.timer }

-- it stays so with other registers and channels that are valid together
rebuilt-fed : (s : State) (r : Registers) (chs : List Channel) → valid_registers r ≡ true →
    every (valid_channel (standby r.control)) chs ≡ true → every (valid_pulses (ends_early s.start.modification)) chs ≡ true →
    Fed s → Fed (with_channels (with_registers s r) chs)
rebuilt-fed s r chs v w p f = record { registers = v; start = f.start; channels = w; pulses = p; idle = f.idle; expired = f.expired; wait = f.wait }

-- ---- a channel

-- where a channel need not stand still, no more is asked of it
looser-motion : (held less : Bool) (ch : Channel) → (less implies held) ≡ true → valid_motion held ch ≡ true → valid_motion less ch ≡ true
looser-motion held true ch weaker e = rw weaker at e
looser-motion held false ch weaker e =
    let t = four (ltb ch.ramp 512) (leb ch.spin 1024) _ _ e in
    of_four _ _ _ _ t.0 t.1 refl t.3

without-right : (a b : Bool) → ((a || false) implies (a || b)) ≡ true
without-right true b = refl
without-right false b = refl

without-left : (a b : Bool) → (b implies (a || b)) ≡ true
without-left a true = or-true a
without-left a false = refl

stopped-motion : (held : Bool) (ch : Channel) → valid_motion held (stopped ch) ≡ true
stopped-motion true ch = refl
stopped-motion false ch = refl

config-allowed : (b i : ℕ) → write_refusal (Own Config i) b ≡ accepted → not (config_refused b) ≡ true
unfolding write_refusal
config-allowed b i e =
    by-test (config_refused b) (λ on. absurd (omega (arith, rw on at e))) (λ off. rw off refl)

channel-written : (in_standby : Bool) (ch : Channel) (b i : ℕ) (r : ChannelRegister) → write_refusal (Own r i) b ≡ accepted →
    ChannelParts in_standby ch → ChannelParts in_standby (channel_written ch b r)
unfolding channel_written
channel-written in_standby ch b i Config e p =
    let q = settings-parts ch p.settings in
    let next = with_settings ch b ch.dynamics ch.window ch.target (target_count ch) in
    let settings = of_four (not (config_refused b)) _ _ _ (config-allowed b i e) q.dynamics q.target q.target-count in
    choice (ChannelParts in_standby) (bit 4 b) (stopped next) next
    (λ on. record { settings = settings; results = p.results; motion = stopped-motion (in_standby || bit 4 b) next })
    (λ off. record {
      settings = settings;
      results = p.results;
      motion = rw off (looser-motion _ (in_standby || false) ch (without-right in_standby (monitor_only ch.config)) p.motion);
    })
channel-written in_standby ch b i Dynamics e p =
    let q = settings-parts ch p.settings in
    record {
      settings = of_four _ _ _ _ q.config (dynamics-again b) q.target q.target-count;
      results = p.results;
      motion = p.motion;
    }
channel-written in_standby ch b i Window e p = record { settings = p.settings; results = p.results; motion = p.motion }

written-pulses : (early : Bool) (ch : Channel) (b : ℕ) (r : ChannelRegister) → valid_pulses early ch ≡ true →
    valid_pulses early (channel_written ch b r) ≡ true
unfolding valid_pulses channel_written
written-pulses early ch b Config v =
    choice (λ x. valid_pulses early x ≡ true) (bit 4 b) _ _ (λ on. no-pulses early (stopped ch) refl) (λ off. v)
written-pulses early ch b Dynamics v = v
written-pulses early ch b Window v = v

-- the number that a word shows is below the limit of its width
target-written : (in_standby : Bool) (ch : Channel) (word : ℕ) (r : WordRegister) → ChannelParts in_standby ch → ChannelParts in_standby (target_written ch word r)
unfolding target_written
target-written in_standby ch word Target p =
    let q = settings-parts ch p.settings in
    record {
      settings = of_four _ _ _ _ q.config q.dynamics (lt-ltb (shown_in 9 word) 512 (mod-lt (word / 128) (lit< tt))) q.target-count;
      results = and_both (ltb ch.count 2048) _ (and_left (ltb ch.count 2048) _ p.results) refl;
      motion = p.motion;
    }
target-written in_standby ch word TargetCount p =
    let q = settings-parts ch p.settings in
    record {
      settings = of_four _ _ _ _ q.config q.dynamics q.target (lt-ltb (shown_in 11 word) 2048 (mod-lt (word / 32) (lit< tt)));
      results = p.results;
      motion = p.motion;
    }

target-pulses : (early : Bool) (ch : Channel) (word : ℕ) (r : WordRegister) → valid_pulses early ch ≡ true →
    valid_pulses early (target_written ch word r) ≡ true
unfolding valid_pulses target_written
target-pulses early ch word Target v = v
target-pulses early ch word TargetCount v = v

-- ---- as at start

start-channel-valid : (in_standby : Bool) (v : StartValues) → v.target < 512 → valid_channel in_standby (start_channel v) ≡ true
start-channel-valid in_standby v h =
    let config = all-below 4 (λ code. not (config_refused (code * 0x20))) refl (bits 1 0 v.spinup) (omega arith) in
    valid-of-channel-parts in_standby (start_channel v)
    (record {
      settings = of_four _ _ _ _ config refl (lt-ltb _ 512 h) refl;
      results = refl;
      motion = stopped-motion (in_standby || monitor_only (start_channel v).config) (start_channel v);
    })

as-at-start : (v : StartValues) (clock : ℕ) (pin : Bool) → valid_start v ≡ true → Fed (as_at_start v clock pin)
as-at-start v clock pin e =
    let watchdog = bits 1 0 v.watchdog in
    let control = all-below 4 (λ code. eqb (control_kept (0x20 + code * 2)) (0x20 + code * 2)) refl watchdog (omega arith) in
    record {
      registers = valid-of-registers-parts _ (record { control = control; mask2 = refl; mask1 = refl; options = refl });
      start = e;
      channels =
          every-replicate (valid_channel (bit 7 (0x20 + watchdog * 2))) 6 (start_channel v) (start-channel-valid _ v (start-target-lt v e));
      pulses = every-replicate (valid_pulses (ends_early v.modification)) 6 (start_channel v) (no-pulses _ (start_channel v) refl);
      idle = refl;
      expired = refl;
      wait = refl;
    }

zero-valid : valid_of zero_state ≡ true
unfolding valid_of valid_registers valid_start valid_timer valid_channel valid_pulses watchdog_limit
zero-valid = refl

pub start-valid : (watchdog spinup target frequency modification : ℕ) →
    valid_of (start_of watchdog spinup target frequency modification).state ≡ true
unfolding start_of
start-valid watchdog spinup target frequency modification =
    let v = start_values watchdog spinup target frequency modification in
    choice (λ (x : Answer). valid_of x.state ≡ true) (valid_start v) _ _
    (λ e. fed-valid (as_at_start v 0 true) (as-at-start v 0 true e))
    (λ e. zero-valid)

-- ---- a register of the box

-- 00h unchanged
others-written : (s : State) (frequency mask2 mask1 options : ℕ) → eqb (mask_kept mask2) mask2 ≡ true →
    eqb (mask_kept mask1) mask1 ≡ true → eqb (options_kept options) options ≡ true → Fed s →
    Fed (with_registers s (registers s.registers.control frequency mask2 mask1 options))
others-written s frequency mask2 mask1 options e2 e1 e f =
    let q = registers-parts s.registers f.registers in
    rebuilt-fed s _ s.channels
    (valid-of-registers-parts _ (record { control = q.control; mask2 = e2; mask1 = e1; options = e }))
    f.channels f.pulses f

-- 00h written: in standby every channel stands still, and out of it none need
stopped-channels : (in_standby : Bool) (chs : List Channel) → every (valid_channel in_standby) chs ≡ true →
    every (valid_channel true) (map stopped chs) ≡ true
stopped-channels in_standby chs e =
    every_map (valid_channel in_standby) (valid_channel true) stopped
    (λ ch v. let p = channel-parts in_standby ch v in
    valid-of-channel-parts true (stopped ch) (record { settings = p.settings; results = p.results; motion = refl }))
    chs e

free-channels : (in_standby : Bool) (chs : List Channel) → every (valid_channel in_standby) chs ≡ true → every (valid_channel false) chs ≡ true
free-channels in_standby =
    every-weaker (valid_channel in_standby) (valid_channel false)
    (λ ch v. let p = channel-parts in_standby ch v in
    valid-of-channel-parts false ch
    (record {
      settings = p.settings;
      results = p.results;
      motion = looser-motion _ (monitor_only ch.config) ch (without-left in_standby (monitor_only ch.config)) p.motion;
    }))

stopped-pulses : (early : Bool) (chs : List Channel) → every (valid_pulses early) chs ≡ true → every (valid_pulses early) (map stopped chs) ≡ true
stopped-pulses early chs e = every_map (valid_pulses early) (valid_pulses early) stopped (λ ch v. no-pulses early (stopped ch) refl) chs e

box-written : (s : State) (b : ℕ) (r : BoxRegister) → Fed s → Fed (box_written s b r)
unfolding box_written
box-written s b Control f =
    choice Fed (bit 6 b) (reset s) _ (λ on. as-at-start s.start s.timer.clock s.pin f.start)
    (λ off. choice Fed (bit 7 b) _ _
    (λ on. rebuilt-fed s next (map stopped s.channels) kept (rw (standby-kept b ∙ on) (stopped-channels _ s.channels f.channels)) (stopped-pulses _ s.channels f.pulses) f)
    (λ off. rebuilt-fed s next s.channels kept (rw (standby-kept b ∙ off) (free-channels _ s.channels f.channels)) f.pulses f))
  where
    next : Registers
    next = registers (control_kept b) s.registers.frequency s.registers.mask2 s.registers.mask1 s.registers.options

    kept : valid_registers next ≡ true
    kept =
        let q = registers-parts s.registers f.registers in
        valid-of-registers-parts next (record { control = control-again b; mask2 = q.mask2; mask1 = q.mask1; options = q.options })
box-written s b Frequency f =
    let q = registers-parts s.registers f.registers in
    others-written s b _ _ _ q.mask2 q.mask1 q.options f
box-written s b Mask2 f =
    let q = registers-parts s.registers f.registers in
    others-written s _ _ _ _ (mask-again b) q.mask1 q.options f
box-written s b Mask1 f =
    let q = registers-parts s.registers f.registers in
    others-written s _ _ _ _ q.mask2 (mask-again b) q.options f
box-written s b Options f =
    let q = registers-parts s.registers f.registers in
    others-written s _ _ _ _ q.mask2 q.mask1 (options-again b) f

-- ---- a channel's register

-- one channel becomes another that is valid where it was
own-fed : (s : State) (i : ℕ) (next : Channel) → Fed s →
    (let in_standby = standby s.registers.control in ChannelParts in_standby (channel s i) → ChannelParts in_standby next) →
    (let early = ends_early s.start.modification in valid_pulses early (channel s i) ≡ true → valid_pulses early next ≡ true) →
    Fed (with_channels s (set s.channels i next))
own-fed s i next f kept counted =
    rebuilt-fed s s.registers _ f.registers (channel-set _ s.channels i next kept f.channels)
    (pulses-set _ s.channels i next counted f.pulses) f

-- ---- the calls

module _ (s : State) (valid : valid_of s ≡ true) where
  -- a write, of a byte or of a word
  unless-refused-valid : (refusal : ℕ) (next : State) → (refusal ≡ accepted → Fed next) → valid_of (unless_refused refusal s next).state ≡ true
  unless-refused-valid refusal next fed =
      choice (λ (x : Answer). valid_of x.state ≡ true) (eqb refusal accepted) _ _ (λ e. fed-valid next (fed (eqb-true _ _ e))) (λ e. valid)

  written-fed : (b : ℕ) (p : Place) → write_refusal p b ≡ accepted → Fed (written (accessed s) b p)
  unfolding written
  written-fed b Absent e = accessed-fed s valid
  written-fed b (ReadOnly r) e = accessed-fed s valid
  written-fed b (Shared r) e = box-written (accessed s) b r (accessed-fed s valid)
  written-fed b (Own r i) e = own-fed (accessed s) i _ (accessed-fed s valid) (channel-written _ (channel s i) b i r e) (written-pulses _ (channel s i) b r)
  written-fed b (OwnWord r i low) e = accessed-fed s valid

  word-written-fed : (word : ℕ) (p : Place) → Fed (word_written (accessed s) word p)
  unfolding word_written
  word-written-fed word Absent = accessed-fed s valid
  word-written-fed word (ReadOnly r) = accessed-fed s valid
  word-written-fed word (Shared r) = accessed-fed s valid
  word-written-fed word (Own r i) = accessed-fed s valid
  word-written-fed word (OwnWord r i low) = own-fed (accessed s) i _ (accessed-fed s valid) (target-written _ (channel s i) word r) (target-pulses _ (channel s i) word r)

  pub write-valid : (a b : ℕ) → valid_of (write_of s a b).state ≡ true
  unfolding write_of
  write-valid a b = rw valid (unless-refused-valid _ _ (written-fed b (place_at a)))

  pub write-word-valid : (a word : ℕ) → valid_of (write_word_of s a word).state ≡ true
  unfolding write_word_of
  write-word-valid a word = rw valid (unless-refused-valid (word_refusal (place_at a)) _ (λ e. word-written-fed word (place_at a)))

  after-read-valid : (a : ℕ) → valid_of (after_read s a) ≡ true
  after-read-valid a =
      let f = accessed-fed s valid in
      fed-valid (after_read s a) (record { registers = f.registers; start = f.start; channels = f.channels; pulses = f.pulses; idle = refl; expired = refl; wait = f.wait })

  pub read-valid : (a : ℕ) → valid_of (read_of s a).state ≡ true
  unfolding read_of read_at
  read-valid a =
      rw valid
      (choice (λ (x : ReadAnswer). valid_of x.state ≡ true) (is_carried (place_at a)) _ _ (λ e. after-read-valid a) (λ e. valid))
