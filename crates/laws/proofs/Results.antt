-- A tachometer result, a pulse and a pin level keep a valid state valid and leave the watchdog alone.
use Prim.Native.Nat.{ℕ, ◌+◌, ◌-◌, ◌<◌, ◌≤◌, min}
use mathlib.Core.Path.{◌≡◌, refl}
use mathlib.Core.Bool.{Bool, true, false, not, ◌&&◌, ◌||◌}
use native.Mathlib.Omega.{arith}
use lib.Dec.{leb, ltb, eqb}
use lib.ListN.{set}
use borrow.Author.Tests.{lt-ltb, le-leb, ltb-true, leb-true}
use Rattle.laws.proofs.Types.{Channel, Results, State, Conditions, Answer}
use Rattle.rules.specs.Basics.{◌implies◌}
use Rattle.rules.specs.State.{channel, results_of, with_channels, with_pin}
use Rattle.rules.specs.Registers.{standby, monitor_only, tachometer_enabled}
use Rattle.rules.specs.Time.{ends_early}
use Rattle.rules.specs.Duty.{conditions_of}
use Rattle.rules.specs.Calls.{is_channel, if_channel}
use Rattle.rules.specs.Valid.{valid_motion, valid_pulses, valid_of, if_valid}
use Rattle.rules.specs.Tick.{spin_left}
use Rattle.rules.specs.Tachometer.{stored_count, judged, is_bad, result_taken, channel_result, result_of}
use Rattle.rules.specs.Pin.{pin_of}
use Rattle.rules.specs.Pulse.{pulsed, pulse_of}
use Rattle.rules.proofs.Tests.{by-test, choice, and_left, and_right, and_both}
use Rattle.laws.proofs.Valid.{parts, valid-of-parts, ChannelParts, channel-set, no-pulses, pulses-set, four, of_four}

-- ---- validity

-- a count and a queue count in range
pub record InRange (r : Results) : Type 0 where
  pub count : r.count < 2048
  pub queue : r.queue ≤ 6

taken-in-range : (enabled is_judged bad : Bool) (needed count : ℕ) (r : Results) → InRange r →
    InRange (result_taken enabled is_judged bad needed (stored_count count) r)
unfolding result_taken
taken-in-range enabled is_judged bad needed count r p =
    let small : stored_count count < 2048 = omega arith in
    choice InRange (not enabled) _ _ (λ e. p) λ e.
    choice InRange (not is_judged) _ _ (λ e. record { count = small; queue = p.queue }) λ e.
    choice InRange bad _ _
    (λ e. record { count = small; queue = (let most : min (r.queue + 1) 6 ≤ 6 = omega arith in most) })
    (λ e. record { count = small; queue = omega arith })

taken-valid : (in_standby : Bool) (k : Conditions) (needed : ℕ) (ch : Channel) (count : ℕ) →
    ChannelParts in_standby ch → ChannelParts in_standby (channel_result k needed ch count)
unfolding channel_result
taken-valid in_standby k needed ch count p =
    let before : InRange (results_of ch) = record {
      count = ltb-true _ 2048 (and_left _ _ p.results);
      queue = leb-true _ 6 (and_right (ltb ch.count 2048) _ p.results);
    } in
    let after = taken-in-range (tachometer_enabled ch.config) (judged k ch) (is_bad ch (stored_count count)) needed count (results_of ch) before in
    record {
      settings = p.settings;
      results = and_both _ _ (lt-ltb _ 2048 after.count) (le-leb _ 6 after.queue);
      motion = p.motion;
    }

-- a result leaves the count of pulses
taken-pulses : (early : Bool) (k : Conditions) (needed : ℕ) (ch : Channel) (count : ℕ) → valid_pulses early ch ≡ true →
    valid_pulses early (channel_result k needed ch count) ≡ true
unfolding valid_pulses channel_result
taken-pulses early k needed ch count v = v

-- a pulse changes no more than the spin-up: it ends, or one pulse is counted
ended-motion : (still : Bool) (ch : Channel) → valid_motion still ch ≡ true → valid_motion still (spin_left ch 0) ≡ true
ended-motion still ch e =
    let t = four (ltb ch.ramp 512) (leb ch.spin 1024) _ _ e in
    of_four _ _ _ _ t.0 refl (rest still (eqb ch.ramp 0) (eqb ch.spin 0) t.2) refl
  where
    rest : (still ramp spin : Bool) → (still implies (ramp && spin)) ≡ true → (still implies (ramp && true)) ≡ true
    rest true ramp spin both = and_both ramp true (and_left ramp spin both) refl
    rest false ramp spin both = refl

pulsed-valid : (early in_standby : Bool) (ch : Channel) → ChannelParts in_standby ch → ChannelParts in_standby (pulsed early ch)
unfolding pulsed
pulsed-valid early in_standby ch p =
    choice (ChannelParts in_standby) (not (early && ltb 0 ch.spin)) _ _ (λ _. p) λ _.
    choice (ChannelParts in_standby) (eqb ch.pulses 0) _ _
    (λ _. record { settings = p.settings; results = p.results; motion = p.motion })
    (λ _. record { settings = p.settings; results = p.results; motion = ended-motion (in_standby || monitor_only ch.config) ch p.motion })

pulsed-pulses : (early : Bool) (ch : Channel) → valid_pulses early ch ≡ true → valid_pulses early (pulsed early ch) ≡ true
unfolding valid_pulses pulsed
pulsed-pulses early ch v =
    by-test (early && ltb 0 ch.spin)
    (λ runs. by-test (eqb ch.pulses 0) (λ first. rw (runs, first) (rw runs refl)) (λ second. rw (runs, second) (no-pulses early (spin_left ch 0) refl)))
    (λ none. rw none v)

module _ (s : State) (valid : valid_of s ≡ true) where
  -- one channel becomes another that is valid where it was
  own-valid : (i : ℕ) (next : Channel) →
      (let in_standby = standby s.registers.control in ChannelParts in_standby (channel s i) → ChannelParts in_standby next) →
      (let early = ends_early s.start.modification in valid_pulses early (channel s i) ≡ true → valid_pulses early next ≡ true) →
      valid_of (with_channels s (set s.channels i next)) ≡ true
  own-valid i next kept counted =
      let p = parts s valid in
      valid-of-parts _
      (record {
        registers = p.registers;
        start = p.start;
        timer = p.timer;
        channels = channel-set _ s.channels i next kept p.channels;
        pulses = pulses-set _ s.channels i next counted p.pulses;
      })

  of-channel-valid : (n : ℕ) (next : State) → valid_of next ≡ true → valid_of (if_valid s (if_channel n s next)).state ≡ true
  of-channel-valid n next kept =
      rw valid (choice (λ (x : Answer). valid_of x.state ≡ true) (is_channel n) _ _ (λ e. kept) (λ e. valid))

  pub result-valid : (n count : ℕ) → valid_of (result_of s n count).state ≡ true
  unfolding result_of
  result-valid n count =
      let ch = channel s (n - 1) in
      of-channel-valid n _ (own-valid (n - 1) _ (taken-valid _ (conditions_of s) _ ch count) (taken-pulses _ (conditions_of s) _ ch count))

  pub pulse-valid : (n : ℕ) → valid_of (pulse_of s n).state ≡ true
  unfolding pulse_of
  pulse-valid n =
      let ch = channel s (n - 1) in
      of-channel-valid n _ (own-valid (n - 1) _ (pulsed-valid _ _ ch) (pulsed-pulses _ ch))

  pub pin-valid : (high : Bool) → valid_of (pin_of s high).state ≡ true
  unfolding pin_of
  pin-valid high =
      let p = parts s valid in
      rw valid
      (valid-of-parts (with_pin s high) (record { registers = p.registers; start = p.start; timer = p.timer; channels = p.channels; pulses = p.pulses }))

pub channel-in-range : (n : ℕ) → is_channel n ≡ true → (1 ≤ n) × (n ≤ 6)
channel-in-range n e = (leb-true 1 n (and_left (leb 1 n) _ e), leb-true n 6 (and_right (leb 1 n) _ e))

-- ---- no access to a register: clock, idle count, expiry and status bit stay, and so do the registers of the box

pub record NoAccess (before after : State) : Type 0 where
  pub timer : after.timer ≡ before.timer
  pub registers : after.registers ≡ before.registers
  pub start : after.start ≡ before.start

stays : (s : State) → NoAccess s s
stays s = record { timer = refl; registers = refl; start = refl }

of-channel-no-access : (s : State) (n : ℕ) (next : State) → NoAccess s next → NoAccess s (if_valid s (if_channel n s next)).state
of-channel-no-access s n next same =
    choice (λ (x : Answer). NoAccess s x.state) (valid_of s) _ _
    (λ e. choice (λ (x : Answer). NoAccess s x.state) (is_channel n) _ _ (λ e. same) (λ e. stays s))
    (λ e. stays s)

pub result-no-access : (s : State) (n count : ℕ) → NoAccess s (result_of s n count).state
unfolding result_of
result-no-access s n count = of-channel-no-access s n _ (record { timer = refl; registers = refl; start = refl })

pub pulse-no-access : (s : State) (n : ℕ) → NoAccess s (pulse_of s n).state
unfolding pulse_of
pulse-no-access s n = of-channel-no-access s n _ (record { timer = refl; registers = refl; start = refl })

pub pin-no-access : (s : State) (high : Bool) → NoAccess s (pin_of s high).state
unfolding pin_of
pin-no-access s high =
    choice (λ (x : Answer). NoAccess s x.state) (valid_of s) _ _
    (λ e. record { timer = refl; registers = refl; start = refl }) (λ e. stays s)
