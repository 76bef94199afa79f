-- A tick keeps a valid state valid.
use Prim.Native.Nat.{ℕ, zero, suc, ◌+◌, ◌-◌, ◌%◌, ◌≤◌, ◌<◌}
use mathlib.Core.Path.{◌≡◌, refl, sym, ◌∙◌}
use mathlib.Core.Bool.{Bool, true, false, ◌||◌}
use native.Mathlib.Omega.{arith}
use lib.Dec.{leb, ltb, eqb, lit<}
use borrow.Author.Tests.{ltb-true, ltb-false, leb-true, leb-false, eqb-true, eqb-false, lt-ltb, le-leb, eq-eqb}
use Rattle.laws.proofs.Types.{Channel, Timer, State, Conditions}
use Rattle.rules.specs.Basics.{◌implies◌}
use Rattle.rules.specs.State.{with_wait, with_motion, with_timer}
use Rattle.rules.specs.Registers.{monitor_only, spin_code, rate_code, watchdog_code, delay_code}
use Rattle.rules.specs.Time.{watchdog_limit, spin_ticks, start_delay, ends_early}
use Rattle.rules.specs.Duty.{conditions_of, override_by}
use Rattle.rules.specs.Valid.{valid_motion, valid_channel, valid_pulses, valid_timer, valid_of}
use Rattle.rules.specs.Tick.{wanted, period_of, spin_up_due, overridden, timer_tick, toward, spin_left, channel_tick, rule_at, delay_of, tick, iterate}
use Rattle.rules.proofs.Tests.{and_both, by-test, choice, all-below}
use Rattle.laws.proofs.Valid.{parts, valid-of-parts, valid-watchdog, wait-low, valid-timer-of, ChannelParts, channel-parts, valid-of-channel-parts, settings-parts, no-pulses, four, of_four}
use Rattle.laws.proofs.Ramp.{toward-lt}
use Rattle.laws.proofs.Turns.{turns-keep, wait-below}

-- ---- the timer

timer-tick-valid : (code : ℕ) (t : Timer) → valid_timer code t ≡ true → valid_timer code (timer_tick code t) ≡ true
unfolding valid_timer timer_tick
timer-tick-valid code t v =
    let h = valid-watchdog code t v in
    let w : leb (t.wait - 1) 2048 ≡ true = le-leb (t.wait - 1) 2048 (omega (arith, leb-true t.wait 2048 (wait-low code t v))) in
    by-test (eqb code 0) (λ e. rw e (and_both _ _ (rw e at h) w))
    (λ e. by-test t.expired (λ x. rw (e, x) (and_both _ _ (rw (e, x) at h) w))
    (λ x. let l : t.idle < watchdog_limit code = ltb-true _ _ (rw (e, x) at h) in
    by-test (leb (watchdog_limit code) (t.idle + 1))
    (λ m. rw (e, x, m) (and_both _ _ (eq-eqb (t.idle + 1) (watchdog_limit code) (omega (arith, leb-true (watchdog_limit code) (t.idle + 1) m))) w))
    (λ m. rw (e, x, m) (and_both _ _ (lt-ltb (t.idle + 1) (watchdog_limit code) (leb-false (watchdog_limit code) (t.idle + 1) m)) w))))

-- with the wait that the channels leave
waited-valid : (code : ℕ) (t : Timer) (wait : ℕ) → valid_timer code t ≡ true → wait ≤ 2048 → valid_timer code (with_wait t wait) ≡ true
waited-valid code t wait v l = valid-timer-of code (with_wait t wait) (valid-watchdog code t v) (le-leb wait 2048 l)

delay-low : (s : State) → delay_of s ≤ 2048
unfolding start_delay
delay-low s =
    leb-true _ 2048 (all-below 8 (λ code. leb (start_delay code) 2048) refl (delay_code s.registers.options) (omega arith))

-- ---- a channel

-- a channel that is not overridden is not monitor only, nor is the box in standby
module _ (k : Conditions) (ch : Channel) (free : overridden k ch ≡ false) where
  not-monitor : monitor_only ch.config ≡ false
  unfolding override_by
  not-monitor = by-test (monitor_only ch.config) (λ m. m ∙ sym (rw m refl) ∙ free) (λ m. m)

  not-standby : k.standby ≡ false
  unfolding override_by
  not-standby =
      by-test k.standby
      (λ b. by-test k.pin (λ p. b ∙ sym (rw (not-monitor, p, b) refl) ∙ free) (λ p. b ∙ sym (rw (not-monitor, p) refl) ∙ free))
      (λ b. b)

-- what validity says of a motion that need not be at rest
record Moving (ramp spin : ℕ) : Type 0 where
  low : ramp < 512
  short : spin ≤ 1024
  full : 0 < spin → ramp ≡ 511

moving : (still : Bool) (ch : Channel) → valid_motion still ch ≡ true → Moving ch.ramp ch.spin
moving still ch e =
    let t = four (ltb ch.ramp 512) (leb ch.spin 1024) _ _ e in
    let full : (ltb 0 ch.spin implies eqb ch.ramp 511) ≡ true = t.3 in
    record {
      low = ltb-true _ 512 t.0;
      short = leb-true _ 1024 t.1;
      full = λ l. eqb-true _ 511 (rw (lt-ltb 0 ch.spin l) at full);
    }

moving-valid : (ch : Channel) (r p q : ℕ) → Moving r p → valid_motion false (with_motion ch r p q) ≡ true
moving-valid ch r p q m =
    of_four _ _ _ _ (lt-ltb r 512 m.low) (le-leb p 1024 m.short) refl
    (by-test (ltb 0 p) (λ e. rw (e, eq-eqb r 511 (m.full (ltb-true 0 p e))) refl) (λ e. rw e refl))

module _ (c : ℕ) (ch : Channel) (parts : ChannelParts false ch) (controlled : monitor_only ch.config ≡ false) where
  now : Moving ch.ramp ch.spin
  now = moving (false || monitor_only ch.config) ch parts.motion

  target-lt : wanted ch < 512
  unfolding wanted
  target-lt = ltb-true _ 512 (settings-parts ch parts.settings).target

  moved-valid : (r p q : ℕ) → Moving r p → valid_channel false (with_motion ch r p q) ≡ true
  moved-valid r p q m =
      valid-of-channel-parts false (with_motion ch r p q)
      (record { settings = parts.settings; results = parts.results; motion = rw controlled (moving-valid ch r p q m) })

  spin-ticks-le : spin_ticks (spin_code ch.config) ≤ 1024
  unfolding spin_ticks
  spin-ticks-le = leb-true _ 1024 (all-below 4 (λ code. leb (spin_ticks code) 1024) refl (spin_code ch.config) (omega arith))

  free-tick-valid : valid_channel false (channel_tick false c ch) ≡ true
  unfolding channel_tick
  free-tick-valid =
      by-test (ltb 0 ch.spin)
      (λ e. rw e (moved-valid ch.ramp (ch.spin - 1) _
      (record { low = now.low; short = omega (arith, now.short); full = λ l. now.full (omega arith) })))
      (λ e. let idle : 0 < ch.spin → ⊥ = λ l. omega (arith, ltb-false 0 ch.spin e) in
      by-test (spin_up_due ch)
      (λ d. rw (e, d) (moved-valid 511 (spin_ticks (spin_code ch.config)) 0 (record { low = lit< tt; short = spin-ticks-le; full = λ l. refl })))
      (λ d. by-test (eqb (rate_code ch.dynamics) 0)
      (λ r. rw (e, d, r) (moved-valid (wanted ch) ch.spin ch.pulses
      (record { low = target-lt; short = now.short; full = λ l. absurd (idle l) })))
      (λ r. by-test (eqb (c % period_of ch) 0)
      (λ q. rw (e, d, r, q) (moved-valid (toward ch.ramp (wanted ch)) ch.spin ch.pulses
      (record { low = toward-lt ch.ramp (wanted ch) 512 now.low target-lt; short = now.short; full = λ l. absurd (idle l) })))
      (λ q. rw (e, d, r, q) (valid-of-channel-parts false ch parts)))))

channel-tick-valid : (k : Conditions) (c : ℕ) (ch : Channel) → valid_channel k.standby ch ≡ true →
    valid_channel k.standby (channel_tick (overridden k ch) c ch) ≡ true
channel-tick-valid k c ch v =
    by-test (overridden k ch)
    (λ o. rw o (unfold channel_tick in v))
    (λ o. let b = not-standby k ch o in
    rw (o, b) (free-tick-valid c ch (channel-parts false ch (rw b at v)) (not-monitor k ch o)))

-- ---- its count of pulses

-- of a running spin-up with fewer ticks left
left-pulses : (early : Bool) (ch : Channel) (left : ℕ) → ltb 0 ch.spin ≡ true → valid_pulses early ch ≡ true →
    valid_pulses early (spin_left ch left) ≡ true
unfolding valid_pulses
left-pulses early ch left runs v =
    by-test (eqb left 0)
    (λ z. no-pulses early (spin_left ch left) (rw z refl))
    (λ some. let pos : 0 < left = omega (arith, eqb-false left 0 some) in rw (some, lt-ltb 0 left pos) (rw runs at v))

tick-pulses : (early held : Bool) (c : ℕ) (ch : Channel) → valid_pulses early ch ≡ true → valid_pulses early (channel_tick held c ch) ≡ true
unfolding valid_pulses channel_tick
tick-pulses early held c ch v =
    choice Counted held _ _ (λ _. v) λ _.
    choice Counted (ltb 0 ch.spin) _ _ (λ runs. left-pulses early ch (ch.spin - 1) runs v) λ _.
    choice Counted (spin_up_due ch) _ _ (λ _. no-pulses early (with_motion ch 511 (spin_ticks (spin_code ch.config)) 0) refl) λ _.
    choice Counted (eqb (rate_code ch.dynamics) 0) _ _ (λ _. v) λ _.
    choice Counted (eqb (c % period_of ch) 0) _ _ (λ _. v) (λ _. v)
  where
    Counted : Channel → Type 0
    Counted x = valid_pulses early x ≡ true

-- ---- the state

pub tick-valid : (s : State) → valid_of s ≡ true → valid_of (tick s) ≡ true
unfolding tick conditions_of
tick-valid s e =
    let p = parts s e in
    let code = watchdog_code s.registers.control in
    let next = with_timer s (timer_tick code s.timer) in
    let k = conditions_of next in
    let c = next.timer.clock in
    let falls = timer-tick-valid code s.timer p.timer in
    let early = ends_early s.start.modification in
    valid-of-parts (tick s)
    (record {
      registers = p.registers;
      start = p.start;
      timer =
          waited-valid code next.timer _ falls
          (wait-below (rule_at k c) (delay_of s) 2048 (delay-low s) next.timer.wait s.channels (leb-true _ 2048 (wait-low code next.timer falls)));
      channels = turns-keep (rule_at k c) (delay_of s) (valid_channel k.standby) (channel-tick-valid k c) next.timer.wait s.channels p.channels;
      pulses = turns-keep (rule_at k c) (delay_of s) (valid_pulses early) (λ ch. tick-pulses early (overridden k ch) c ch) next.timer.wait s.channels p.pulses;
    })

pub iterate-valid : (n : ℕ) (s : State) → valid_of s ≡ true → valid_of (iterate n tick s) ≡ true
unfolding iterate
iterate-valid zero s e = e
iterate-valid (suc n) s e = iterate-valid n (tick s) (tick-valid s e)
