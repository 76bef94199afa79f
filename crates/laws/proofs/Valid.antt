-- A valid state by its parts, and the parts that the calls change.
use Prim.Native.Nat.{ℕ, ◌≤◌, ◌<◌}
use mathlib.Core.Path.{◌≡◌, refl}
use mathlib.Core.Bool.{Bool, true, false, not, ◌&&◌, ◌||◌}
use mathlib.Core.List.{List}
use lib.Dec.{leb, ltb, eqb}
use lib.ListN.{get_or, set}
use native.Mathlib.Omega.{arith}
use borrow.Author.Tests.{ltb-true, leb-true, eqb-true, le-leb}
use Rattle.laws.proofs.Types.{Channel, Registers, StartValues, Timer, State}
use Rattle.rules.specs.Basics.{every, flag}
use Rattle.rules.specs.State.{blank}
use Rattle.rules.specs.Registers.{standby, watchdog_code, monitor_only, target_count, control_kept, dynamics_kept, mask_kept, options_kept, config_refused}
use Rattle.rules.specs.Time.{ends_early}
use Rattle.rules.specs.Valid.{valid_settings, valid_results, valid_motion, valid_channel, valid_pulses, valid_registers, valid_start, valid_watchdog, valid_timer, valid_of}
use Rattle.rules.proofs.Tests.{and_left, and_right, and_both, by-test, every-at, every_set, every-weaker}

pub record Parts (s : State) : Type 0 where
  pub registers : valid_registers s.registers ≡ true
  pub start : valid_start s.start ≡ true
  pub timer : valid_timer (watchdog_code s.registers.control) s.timer ≡ true
  pub channels : every (valid_channel (standby s.registers.control)) s.channels ≡ true
  pub pulses : every (valid_pulses (ends_early s.start.modification)) s.channels ≡ true

pub record ChannelParts (in_standby : Bool) (ch : Channel) : Type 0 where
  pub settings : valid_settings ch ≡ true
  pub results : valid_results ch ≡ true
  pub motion : valid_motion (in_standby || monitor_only ch.config) ch ≡ true

pub record SettingsParts (ch : Channel) : Type 0 where
  pub config : not (config_refused ch.config) ≡ true
  pub dynamics : eqb (dynamics_kept ch.dynamics) ch.dynamics ≡ true
  pub target : ltb ch.target 512 ≡ true
  pub target-count : ltb (target_count ch) 2048 ≡ true

pub record RegistersParts (r : Registers) : Type 0 where
  pub control : eqb (control_kept r.control) r.control ≡ true
  pub mask2 : eqb (mask_kept r.mask2) r.mask2 ≡ true
  pub mask1 : eqb (mask_kept r.mask1) r.mask1 ≡ true
  pub options : eqb (options_kept r.options) r.options ≡ true

-- four tests in a row, taken apart and put together
module _ (a b c d : Bool) where
  pub four : (a && b && c && d) ≡ true → (a ≡ true) × (b ≡ true) × (c ≡ true) × (d ≡ true)
  four e =
      let abc = and_left (a && b && c) d e in
      let ab = and_left (a && b) c abc in
      (and_left a b ab, and_right a b ab, and_right (a && b) c abc, and_right (a && b && c) d e)

  pub of_four : a ≡ true → b ≡ true → c ≡ true → d ≡ true → (a && b && c && d) ≡ true
  of_four p q r t = and_both (a && b && c) d (and_both (a && b) c (and_both a b p q) r) t

module _ (s : State) where
  pub parts : valid_of s ≡ true → Parts s
  unfolding valid_of
  parts e =
      let t = four (valid_registers s.registers) _ _ _ (and_left _ _ e) in
      let channels = every (valid_channel (standby s.registers.control)) s.channels in
      let before = valid_registers s.registers && valid_start s.start && valid_timer (watchdog_code s.registers.control) s.timer && channels in
      record { registers = t.0; start = t.1; timer = t.2; channels = t.3; pulses = and_right before _ e }

  pub valid-of-parts : Parts s → valid_of s ≡ true
  unfolding valid_of
  valid-of-parts p = and_both _ _ (of_four _ _ _ _ p.registers p.start p.timer p.channels) p.pulses

module _ (in_standby : Bool) (ch : Channel) where
  pub channel-parts : valid_channel in_standby ch ≡ true → ChannelParts in_standby ch
  unfolding valid_channel
  channel-parts e =
      let two = and_left (valid_settings ch && valid_results ch) _ e in
      record {
        settings = and_left _ _ two;
        results = and_right (valid_settings ch) _ two;
        motion = and_right (valid_settings ch && valid_results ch) _ e;
      }

  pub valid-of-channel-parts : ChannelParts in_standby ch → valid_channel in_standby ch ≡ true
  unfolding valid_channel
  valid-of-channel-parts p = and_both _ _ (and_both _ _ p.settings p.results) p.motion

-- a valid timer: its watchdog, and its wait
module _ (code : ℕ) (t : Timer) where
  pub valid-watchdog : valid_timer code t ≡ true → valid_watchdog code t.idle t.expired ≡ true
  unfolding valid_timer
  valid-watchdog e = and_left _ _ e

  pub wait-low : valid_timer code t ≡ true → leb t.wait 2048 ≡ true
  unfolding valid_timer
  wait-low e = and_right (valid_watchdog code t.idle t.expired) _ e

  pub valid-timer-of : valid_watchdog code t.idle t.expired ≡ true → leb t.wait 2048 ≡ true → valid_timer code t ≡ true
  unfolding valid_timer
  valid-timer-of w l = and_both _ _ w l

pub start-target-lt : (v : StartValues) → valid_start v ≡ true → v.target < 512
unfolding valid_start
start-target-lt v e = ltb-true _ 512 (four (ltb v.watchdog 4) _ _ _ e).2

pub settings-parts : (ch : Channel) → valid_settings ch ≡ true → SettingsParts ch
settings-parts ch e =
    let t = four (not (config_refused ch.config)) _ _ _ e in
    record { config = t.0; dynamics = t.1; target = t.2; target-count = t.3 }

pub registers-parts : (r : Registers) → valid_registers r ≡ true → RegistersParts r
unfolding valid_registers
registers-parts r e =
    let t = four (eqb (control_kept r.control) r.control) _ _ _ e in
    record { control = t.0; mask2 = t.1; mask1 = t.2; options = t.3 }

pub valid-of-registers-parts : (r : Registers) → RegistersParts r → valid_registers r ≡ true
unfolding valid_registers
valid-of-registers-parts r p = of_four _ _ _ _ p.control p.mask2 p.mask1 p.options

-- a channel of valid ones is valid, also past their end
blank-valid : (in_standby : Bool) → valid_channel in_standby blank ≡ true
unfolding valid_channel
blank-valid true = refl
blank-valid false = refl

pub parts-of-channel : (in_standby : Bool) (chs : List Channel) (i : ℕ) → every (valid_channel in_standby) chs ≡ true →
    ChannelParts in_standby (get_or chs i blank)
parts-of-channel in_standby chs i e =
    channel-parts in_standby _ (every-at (valid_channel in_standby) chs i blank (blank-valid in_standby) e)

-- one of valid channels becomes another that is valid where it was
pub channel-set : (in_standby : Bool) (chs : List Channel) (i : ℕ) (next : Channel) →
    (ChannelParts in_standby (get_or chs i blank) → ChannelParts in_standby next) →
    every (valid_channel in_standby) chs ≡ true → every (valid_channel in_standby) (set chs i next) ≡ true
channel-set in_standby chs i next kept e =
    every_set (valid_channel in_standby) chs i next (valid-of-channel-parts in_standby next (kept (parts-of-channel in_standby chs i e))) e

-- ---- the counts of pulses

-- none is counted; no more are than ticks are left
abbrev pub none_counted : Channel → Bool
none_counted ch = eqb ch.pulses 0

abbrev pub few_pulses : Channel → Bool
few_pulses ch = leb ch.pulses ch.spin

pub no-pulses : (early : Bool) (ch : Channel) → none_counted ch ≡ true → valid_pulses early ch ≡ true
unfolding valid_pulses
no-pulses early ch none = le-leb ch.pulses _ (omega (arith, eqb-true ch.pulses 0 none))

pub none-counted : (early : Bool) (chs : List Channel) → every none_counted chs ≡ true → every (valid_pulses early) chs ≡ true
none-counted early = every-weaker none_counted (valid_pulses early) (no-pulses early)

running : (early : Bool) (spin : ℕ) → flag (early && ltb 0 spin) ≤ spin
running true spin =
    by-test (ltb 0 spin) (λ e. rw e (omega (arith, ltb-true 0 spin e))) (λ e. rw e (omega arith))
running false spin = omega arith

pub few-pulses : (s : State) → valid_of s ≡ true → every few_pulses s.channels ≡ true
unfolding valid_pulses
few-pulses s valid =
    let early = ends_early s.start.modification in
    every-weaker (valid_pulses early) few_pulses
    (λ ch v. le-leb ch.pulses ch.spin (omega (arith, leb-true ch.pulses _ v, running early ch.spin)))
    s.channels (parts s valid).pulses

-- one channel becomes another whose count is valid where it was
pub pulses-set : (early : Bool) (chs : List Channel) (i : ℕ) (next : Channel) →
    (valid_pulses early (get_or chs i blank) ≡ true → valid_pulses early next ≡ true) →
    every (valid_pulses early) chs ≡ true → every (valid_pulses early) (set chs i next) ≡ true
pulses-set early chs i next kept e =
    every_set (valid_pulses early) chs i next (kept (every-at (valid_pulses early) chs i blank (no-pulses early blank refl) e)) e
