-- Pulses do nothing in a box of modification A, and two of them end a running spin-up in a box of B.
use Prim.Native.Nat.{ℕ, zero, suc, ◌+◌, ◌-◌, ◌≤◌, ◌<◌}
use mathlib.Core.Path.{◌≡◌, refl, sym, ◌∙◌, ap}
use mathlib.Core.Bool.{Bool, true, false, ◌&&◌, false≢true}
use mathlib.Core.List.{List, [], ◌∷◌}
use native.Mathlib.Decide.{dec_lt}
use native.Mathlib.Omega.{arith}
use lib.Dec.{leb, ltb, eqb, lit<}
use lib.ListN.{length, get_or, length-set}
use lib.Seq.{get_or-set_same, set-get_or}
use borrow.Author.Tests.{lt-ltb, le-ltb, le-leb, leb-true, eqb-true, eqb-false}
use Rattle.demands.specs.Types.{Channel, State, Conditions, Answer, Call, Write, Read, Ticks, Tachometer, Pin, WriteWord, Pulse}
use Rattle.rules.specs.Basics.{◌implies◌}
use Rattle.rules.specs.State.{blank, channel, with_motion, with_channels}
use Rattle.rules.specs.Registers.{spin_code, rate_code, watchdog_code, delay_code, standby}
use Rattle.rules.specs.Map.{place_at, setting_at}
use Rattle.rules.specs.Time.{clock_after, spin_ticks, start_delay, ends_early, watchdog_limit}
use Rattle.rules.specs.Duty.{conditions_of, override_by}
use Rattle.rules.specs.Calls.{is_channel}
use Rattle.rules.specs.Valid.{valid_channel, valid_pulses, valid_registers, valid_start, valid_timer, valid_of}
use Rattle.rules.specs.Start.{start_of}
use Rattle.rules.specs.Write.{channel_written, written, write_refusal, write_of}
use Rattle.rules.specs.Pin.{pin_of}
use Rattle.rules.specs.Tick.{wanted, spin_up_due, overridden, idle_limit, delay_of, timer_tick, toward, channel_tick, rule_at, leaves_zero, in_turn, wait_after, channels_tick, wait_tick, tick, iterate, ticks_passed}
use Rattle.rules.specs.Pulse.{pulsed, with_pulse, pulse_of}
use Rattle.rules.specs.Make.{made, made_each, after_each}
use Rattle.rules.proofs.Tests.{and_left, by-test, choice, every-at}
use Rattle.laws.proofs.Valid.{parts, parts-of-channel, four, few_pulses, few-pulses}
use Rattle.laws.proofs.ChannelTicks.{channel_ticks, ticks-held, ticks-at-once, ticks-ramp, ticks-within, ticks-past, ticks-due-within, full-not-due}
use Rattle.laws.proofs.StateTicks.{counting, counting-live, counting-below, row_of, row_after, ahead, ticks-ahead, expiring-ticks}
use Rattle.laws.proofs.OwnWay.{rows_long, left_alone}
use Rattle.laws.proofs.Keep.{calls-keep, passed-valid}
use Rattle.laws.proofs.PinSet.{start-stays}
use Rattle.demands.specs.Trials.{OneOfSix}
use Rattle.demands.specs.Pulses.{is_pulse, without_pulses, answers_beside, AsWithoutPulses, SpinsUp, HasEnded, first_pulse, both_pulses, EndsEarly, StartsSpinUp, started, HasStarted}
use Rattle.demands.proofs.Elapsed.{free-duty, Own, above-own, channel-ahead}

-- ---- A

-- a pulse leaves the state as it was
ignored : (s : State) (n : ℕ) → ends_early s.start.modification ≡ false → (pulse_of s n).state ≡ s
unfolding pulse_of pulsed
ignored s n whole =
    choice (λ (a : Answer). a.state ≡ s) (valid_of s) _ _
    (λ _. choice (λ (a : Answer). a.state ≡ s) (is_channel n) _ _
    (λ _. rw whole (ap (with_channels s) (set-get_or s.channels (n - 1) blank)))
    (λ _. refl))
    (λ _. refl)

pulse-ignored : (s : State) (call : Call) → is_pulse call ≡ true → ends_early s.start.modification ≡ false → (made s call).state ≡ s
unfolding made
pulse-ignored s (Write a b) e whole = absurd (false≢true e)
pulse-ignored s (Read a) e whole = absurd (false≢true e)
pulse-ignored s (Ticks n) e whole = absurd (false≢true e)
pulse-ignored s (Tachometer n count) e whole = absurd (false≢true e)
pulse-ignored s (Pin high) e whole = absurd (false≢true e)
pulse-ignored s (WriteWord a word) e whole = absurd (false≢true e)
pulse-ignored s (Pulse n) e whole = ignored s n whole

-- the modification stays, so the next call finds a box of A again
pub pulses-ignored : (s : State) (calls : List Call) → ends_early s.start.modification ≡ false → AsWithoutPulses s calls
unfolding without_pulses answers_beside after_each made_each
pulses-ignored s [] whole = record { state = refl; answers = refl }
pulses-ignored s (call ∷ calls) whole =
    by-test (is_pulse call)
    (λ e. let here = pulse-ignored s call e whole in
    let rest = pulses-ignored s calls whole in
    record {
      state = rw e (ap (λ x. after_each x calls) here ∙ rest.state);
      answers = rw e (ap (λ x. answers_beside x calls) here ∙ rest.answers);
    })
    (λ e. let rest = pulses-ignored (made s call).state calls (ap (λ v. ends_early v.modification) (start-stays s call) ∙ whole) in
    record { state = rw e rest.state; answers = rw e (ap (λ l. made s call ∷ l) rest.answers) })

-- the same start twice, with the watchdog counting and spin-up code 1: two pulses after eleven ticks and twenty more
abbrev started_as : ℕ → State
started_as modification = (start_of 1 1 200 0x11 modification).state

abbrev crossed : List Call
crossed = Ticks 11 ∷ Pulse 1 ∷ Ticks 20 ∷ Pulse 1 ∷ Ticks 4 ∷ []

-- channel 1 after calls: its remaining spin-up ticks, its pulses, its ramp value
abbrev seen_after : State → List Call → List ℕ
seen_after s calls = let ch = channel (after_each s calls) 0 in ch.spin ∷ ch.pulses ∷ ch.ramp ∷ []

-- in a box of A it runs on: of 256 ticks 34 are gone after the one that started it
pub ignored-example : (ends_early (started_as 0).start.modification ≡ false) × (without_pulses crossed ≡ Ticks 11 ∷ Ticks 20 ∷ Ticks 4 ∷ [])
    × (seen_after (started_as 0) crossed ≡ 222 ∷ 0 ∷ 511 ∷ [])
unfolding without_pulses start_of after_each made pulse_of pulsed valid_of valid_registers valid_start valid_timer valid_channel valid_pulses watchdog_limit ticks_passed iterate tick timer_tick channels_tick wait_tick in_turn wait_after leaves_zero channel_tick start_delay conditions_of override_by spin_up_due wanted spin_ticks
ignored-example = (refl, refl, refl)

-- ---- B

-- of a channel with spin-up time left: "a running spin-up has ramp value 511", and no more pulses are counted than ticks are left
module _ (s : State) (i : ℕ) (valid : valid_of s ≡ true) where
  full : 0 < (channel s i).spin → (channel s i).ramp ≡ 511
  full some =
      let motion = (parts-of-channel (standby s.registers.control) s.channels i (parts s valid).channels).motion in
      let last : (ltb 0 (channel s i).spin implies eqb (channel s i).ramp 511) ≡ true =
      (four (ltb (channel s i).ramp 512) (leb (channel s i).spin 1024) _ _ motion).3 in
      eqb-true (channel s i).ramp 511 (rw (lt-ltb 0 (channel s i).spin some) at last)

  few : (channel s i).pulses ≤ (channel s i).spin
  few = leb-true _ _ (every-at few_pulses s.channels i blank refl (few-pulses s valid))

-- a call leaves a box of B as one, and all its channels: time is left where it is left
runs_after : (s : State) (i : ℕ) (call : Call) → OneOfSix s i → ends_early s.start.modification ≡ true →
    length (made s call).state.channels ≡ length s.channels → 0 < (channel (made s call).state i).spin → SpinsUp (made s call).state i
runs_after s i call o early long left =
    record {
      channel-is = record { is-valid = (calls-keep s call).valid o.is-valid; six = long ∙ o.six; below = o.below };
      ends-early = ap (λ v. ends_early v.modification) (start-stays s call) ∙ early;
      remains = left;
    }

-- a pulse on a channel with spin-up time left
abbrev after_pulse : State → ℕ → State
after_pulse s i = (made s (Pulse (i + 1))).state

module _ (s : State) (i : ℕ) (c : SpinsUp s i) where
  pulse-at : (made s (Pulse (i + 1))).state ≡ with_pulse s i
  unfolding made pulse_of
  pulse-at =
      let o = c.channel-is in
      let back : i + 1 - 1 ≡ i = omega arith in
      rw (o.is-valid, le-leb 1 (i + 1) (omega arith), le-leb (i + 1) 6 (omega (arith, o.below)), back) refl

  pulse-channel : channel (after_pulse s i) i ≡ pulsed true (channel s i)
  pulse-channel =
      ap (λ x. channel x i) pulse-at
      ∙ get_or-set_same s.channels i _ blank (omega (arith, c.channel-is.below, c.channel-is.six))
      ∙ ap (λ b. pulsed b (channel s i)) c.ends-early

  -- the first
  first-counts : (channel s i).pulses ≡ 0 → channel (after_pulse s i) i ≡ with_motion (channel s i) 511 (channel s i).spin 1
  unfolding pulsed
  first-counts none =
      pulse-channel ∙ rw (lt-ltb 0 (channel s i).spin c.remains, none)
      (ap (λ ramp. with_motion (channel s i) ramp (channel s i).spin 1) (full s i c.channel-is.is-valid c.remains))

  first_runs : (channel s i).pulses ≡ 0 → SpinsUp (after_pulse s i) i
  first_runs none =
      runs_after s i (Pulse (i + 1)) c.channel-is c.ends-early
      (ap (λ (x : State). length x.channels) pulse-at ∙ length-set s.channels i _)
      (rw (first-counts none) c.remains)

  -- the second
  second-ends : (channel s i).pulses ≡ 1 → channel (after_pulse s i) i ≡ with_motion (channel s i) 511 0 0
  unfolding pulsed
  second-ends one =
      pulse-channel ∙ rw (lt-ltb 0 (channel s i).spin c.remains, one)
      (ap (λ ramp. with_motion (channel s i) ramp 0 0) (full s i c.channel-is.is-valid c.remains))

-- a spin-up that ticks have ended stays ended: none is due at ramp value 511, and none comes due on the way to the target
stays-ended : (m t : ℕ) (ch : Channel) → ch.spin ≡ 0 → spin_up_due ch ≡ false → (channel_ticks false m t ch).spin ≡ 0
stays-ended m t ch z d =
    by-test (eqb (rate_code ch.dynamics) 0) (λ e. at_once m (eqb-true _ 0 e))
    (λ e. ap (λ (x : Channel). x.spin) (ticks-ramp t ch z d m (eqb-false _ 0 e)) ∙ z)
  where
    at_once : (m : ℕ) → rate_code ch.dynamics ≡ 0 → (channel_ticks false m t ch).spin ≡ 0
    at_once zero r = unfold channel_ticks in z
    at_once (suc m) r = ap (λ (x : Channel). x.spin) (ticks-at-once t ch z d m r) ∙ z

-- so where time remains after ticks, they have left the count
ticks-leave : (held : Bool) (m t : ℕ) (ch : Channel) → ch.ramp ≡ 511 → ch.pulses ≤ ch.spin → 0 < (channel_ticks held m t ch).spin →
    channel_ticks held m t ch ≡ with_motion ch 511 (channel_ticks held m t ch).spin ch.pulses
ticks-leave true m t ch top few some = rw (ticks-held m t ch) (ap (λ ramp. with_motion ch ramp ch.spin ch.pulses) top)
ticks-leave false m t ch top few some =
    elim (dec_lt m ch.spin) [
      | yes l ↦ rw (ticks-within m t ch few l) (ap (λ ramp. with_motion ch ramp (ch.spin - m) ch.pulses) top)
      | no g ↦
          let none : (channel_ticks false m t ch).spin ≡ 0 =
          ap (λ (x : Channel). x.spin) (ticks-past m t ch few (omega arith))
          ∙ stays-ended (m - ch.spin) (t + ch.spin) (with_motion ch ch.ramp 0 0) refl (rw top (full-not-due ch 0 0)) in
          absurd (omega arith)
    ]

-- the channels after ticks, also where the watchdog expires within them: those of so many ticks under the overrides of now
ticks-channels : (s : State) (n : ℕ) → valid_of s ≡ true → (m : ℕ) × ((made s (Ticks n)).state.channels ≡ (ahead s m).channels)
unfolding made ahead
ticks-channels s n valid =
    by-test (counting s)
    (λ on. let below = counting-below s valid on in
    elim (dec_lt (s.timer.idle + n) (idle_limit s)) [
      | yes l ↦ (n, passed ∙ ap (λ (x : State). x.channels) (ticks-ahead s n (λ _. l)))
      | no g ↦
          (idle_limit s - s.timer.idle - 1, passed ∙ ap (λ (x : State). x.channels) (expiring-ticks s on below n (omega arith)))
    ])
    (λ off. (n, passed ∙ ap (λ (x : State). x.channels) (ticks-ahead s n (λ on. absurd (false≢true (sym off ∙ on))))))
  where
    passed : (ticks_passed s n).state.channels ≡ (iterate n tick s).channels
    passed = ap (λ (a : Answer). a.state.channels) (passed-valid s n valid)

ticks-long : (s : State) (n : ℕ) → valid_of s ≡ true → length (made s (Ticks n)).state.channels ≡ length s.channels
unfolding ahead row_after
ticks-long s n valid =
    let t = ticks-channels s n valid in
    ap length t.1 ∙ rows_long (conditions_of s) (delay_of s) t.0 s.timer.clock (row_of s)

-- a spin-up has ramp value 511, so no wait holds its channel up
count-stays : (s : State) (i n : ℕ) → SpinsUp s i → let t = (made s (Ticks n)).state in 0 < (channel t i).spin →
    channel t i ≡ with_motion (channel s i) 511 (channel t i).spin (channel s i).pulses
count-stays s i n c left =
    let o = c.channel-is in
    let top = full s i o.is-valid c.remains in
    let t = ticks-channels s n o.is-valid in
    let e = ap (λ l. get_or l i blank) t.1 ∙ above-own s i (omega (arith, o.below, o.six)) (λ z. omega arith) t.0 in
    rw e (ticks-leave _ t.0 s.timer.clock (channel s i) top (few s i o.is-valid) (rw e at left))

-- a spin-up that is over has the ramp value as its duty
has_ended : (s : State) (i : ℕ) (calls : List Call) → channel (after_each s calls) i ≡ with_motion (channel s i) 511 0 0 → HasEnded s i calls
has_ended s i calls e =
    record {
      ended = e;
      duty = λ free. free-duty (conditions_of (after_each s calls)) (channel (after_each s calls) i) free (ap (λ (x : Channel). x.spin) e);
    }

module _ (s : State) (i : ℕ) (c : SpinsUp s i) where
  module _ (ticks : ℕ) (none : (channel s i).pulses ≡ 0) (left : 0 < (channel (made (after_pulse s i) (Ticks ticks)).state i).spin) where
    abbrev later : State
    later = (made (after_pulse s i) (Ticks ticks)).state

    later-channel : channel later i ≡ with_motion (channel s i) 511 (channel later i).spin 1
    later-channel =
        count-stays (after_pulse s i) i ticks (first_runs s i c none) left
        ∙ ap (λ ch. with_motion ch 511 (channel later i).spin ch.pulses) (first-counts s i c none)

    later-runs : SpinsUp later i
    later-runs =
        let r = first_runs s i c none in
        runs_after (after_pulse s i) i (Ticks ticks) r.channel-is r.ends-early (ticks-long (after_pulse s i) ticks r.channel-is.is-valid) left

    both : channel (after_pulse later i) i ≡ with_motion (channel s i) 511 0 0
    both =
        second-ends later i later-runs (ap (λ (x : Channel). x.pulses) later-channel)
        ∙ ap (λ ch. with_motion ch 511 0 0) later-channel

  pub ends-early : EndsEarly s i
  unfolding after_each
  ends-early =
      record {
        next-ends = λ one. has_ended s i _ (second-ends s i c one);
        counted = later-channel;
        both_end = λ ticks none left. has_ended s i _ (both ticks none left);
      }

-- one that is due takes its ramp value from 0
due-low : (ch : Channel) → spin_up_due ch ≡ true → eqb ch.ramp 0 ≡ true
unfolding spin_up_due
due-low ch due = and_left _ _ (and_left (eqb ch.ramp 0 && ltb 0 (wanted ch)) _ due)

due-leaves : (k : Conditions) (clock : ℕ) (ch : Channel) → overridden k ch ≡ false → ch.spin ≡ 0 → spin_up_due ch ≡ true → leaves_zero (rule_at k clock) ch ≡ true
unfolding leaves_zero channel_tick
due-leaves k clock ch free z due = rw (due-low ch due, free, le-ltb 0 ch.spin (omega arith), due) refl

-- one that starts with the next tick
module _ (s : State) (i more : ℕ) (c : StartsSpinUp s i (1 + more)) (within : more < spin_ticks (spin_code (channel s i).config)) where
  -- its turn comes at wait 0
  own : Own s i (1 + more)
  unfolding ahead row_after start_delay
  own =
      let e : suc more ≡ 1 + more = omega arith in
      rw (← e)
      (left_alone (conditions_of s) (delay_of s) more s.timer.clock (row_of s) i (omega (arith, c.channel-is.below, c.channel-is.six))
      c.wait-over (λ some. c.none_before (λ code. some (ap start_delay code))) (due-leaves (conditions_of s) _ (channel s i) c.not-overridden c.not-running c.due))

  started-channel : channel (made s (Ticks (1 + more))).state i ≡ with_motion (channel s i) 511 (spin_ticks (spin_code (channel s i).config) - more) 0
  unfolding made
  started-channel =
      let e : 1 + more - 1 ≡ more = omega arith in
      let short : counting s ≡ true → s.timer.idle + (1 + more) < idle_limit s =
      λ on. let l = counting-live s on in c.none-coming (eqb-false (watchdog_code s.registers.control) 0 l.0) l.1 in
      ap (λ (a : Answer). channel a.state i) (passed-valid s (1 + more) c.channel-is.is-valid)
      ∙ ap (λ x. channel x i) (ticks-ahead s (1 + more) short)
      ∙ channel-ahead s i c.not-overridden (1 + more) own
      ∙ ticks-due-within (1 + more) s.timer.clock (channel s i) c.not-running c.due (omega arith) (omega arith)
      ∙ ap (λ m. with_motion (channel s i) 511 (spin_ticks (spin_code (channel s i).config) - m) 0) e

  pub starts-anew : HasStarted s i more
  unfolding after_each
  starts-anew =
      record {
        runs =
            runs_after s i (Ticks (1 + more)) c.channel-is c.ends-early (ticks-long s (1 + more) c.channel-is.is-valid)
            (rw started-channel (omega arith));
        anew = started-channel;
      }

-- from the start above, in a box of B, after the tick that starts the spin-up and ten more: both pulses come within the 256 ticks. After the
-- first 226 of them are left; after the second the ramp goes on, and four ticks later it has left 511
abbrev running : State
running = started (started_as 1) 0 10

pub ends-early-example : StartsSpinUp (started_as 1) 0 11 × HasStarted (started_as 1) 0 10 × HasEnded running 0 (both_pulses 0 20)
    × (seen_after running (first_pulse 0 20) ≡ 226 ∷ 1 ∷ 511 ∷ []) × (seen_after (started_as 1) crossed ≡ 0 ∷ 0 ∷ 510 ∷ [])
unfolding start_of after_each made pulse_of pulsed valid_of valid_registers valid_start valid_timer valid_channel valid_pulses watchdog_limit ticks_passed iterate tick timer_tick channels_tick wait_tick in_turn wait_after leaves_zero channel_tick start_delay conditions_of override_by spin_up_due wanted spin_ticks toward
ends-early-example = (begins, starts, (ends-early running 0 starts.runs).both_end 20 refl (lit< tt), refl, refl)
  where
    begins : StartsSpinUp (started_as 1) 0 11
    begins = record {
      channel-is = record { is-valid = refl; six = refl; below = omega arith };
      ends-early = refl;
      not-running = refl;
      due = refl;
      not-overridden = refl;
      none-coming = λ on live. lit< tt;
      wait-over = omega arith;
      none_before = λ some n l. absurd (omega arith);
    }

    starts : HasStarted (started_as 1) 0 10
    starts = starts-anew (started_as 1) 0 10 begins (lit< tt)

-- the same with FULL_SPEED low before the first pulse: the 246 ticks that are left stand still, for 300 ticks after it too. In the state
-- that these leave one pulse is counted, and the next ends the spin-up
abbrev frozen : State
frozen = (made running (Pin false)).state

abbrev halfway : State
halfway = after_each frozen (first_pulse 0 300)

pub frozen-example : SpinsUp frozen 0 × (overridden (conditions_of frozen) (channel frozen 0) ≡ true) × HasEnded frozen 0 (both_pulses 0 300)
    × (seen_after frozen (first_pulse 0 300) ≡ 246 ∷ 1 ∷ 511 ∷ []) × SpinsUp halfway 0 × HasEnded halfway 0 (Pulse 1 ∷ [])
unfolding start_of pin_of after_each made pulse_of pulsed valid_of valid_registers valid_start valid_timer valid_channel valid_pulses watchdog_limit ticks_passed iterate tick timer_tick channels_tick wait_tick in_turn wait_after leaves_zero channel_tick start_delay conditions_of override_by spin_up_due wanted spin_ticks
frozen-example =
    (none, refl, (ends-early frozen 0 none).both_end 300 refl (lit< tt), refl, one, (ends-early halfway 0 one).next-ends refl)
  where
    none : SpinsUp frozen 0
    none = record { channel-is = record { is-valid = refl; six = refl; below = omega arith }; ends-early = refl; remains = lit< tt }

    one : SpinsUp halfway 0
    one = record { channel-is = record { is-valid = refl; six = refl; below = omega arith }; ends-early = refl; remains = lit< tt }

-- from that start, at delay code 2, with channel 2 made monitor only: after 256 ticks the wait that channel 1 has set is over with the next. Of the
-- two lower channels one is above 0 and the other overridden, and so channel 3 starts
abbrev waited : State
waited = after_each (started_as 1) (Write 0x03 0x30 ∷ Ticks 256 ∷ [])

pub waited-example : (delay_code waited.registers.options ≡ 2) × (waited.timer.wait ≡ 1) × StartsSpinUp waited 2 11 × HasStarted waited 2 10
unfolding start_of after_each made write_of write_refusal written channel_written place_at setting_at valid_of valid_registers valid_start valid_timer valid_channel valid_pulses watchdog_limit ticks_passed iterate tick timer_tick channels_tick wait_tick in_turn wait_after leaves_zero channel_tick start_delay conditions_of override_by spin_up_due wanted spin_ticks
waited-example = (refl, refl, begins, starts-anew waited 2 10 begins (lit< tt))
  where
    before : (n : ℕ) → n < 2 → leaves_zero (rule_at (conditions_of waited) (clock_after waited.timer.clock 1)) (channel waited n) ≡ false
    before zero l = refl
    before (suc zero) l = refl
    before (suc (suc n)) l = absurd (omega arith)

    begins : StartsSpinUp waited 2 11
    begins = record {
      channel-is = record { is-valid = refl; six = refl; below = omega arith };
      ends-early = refl;
      not-running = refl;
      due = refl;
      not-overridden = refl;
      none-coming = λ on live. lit< tt;
      wait-over = omega arith;
      none_before = λ some. before;
    }
