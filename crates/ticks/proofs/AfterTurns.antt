-- Many ticks of the wait and the channels, once it is known who waited how long: each channel is by itself after the ticks that it waited.
use Rattle.std.proofs.Common.{◌≡◌, ℕ, zero, suc, ◌+◌, ◌-◌, ◌%◌, ◌^◌, ◌<◌, ◌≤◌, Bool, true, false, not, ◌&&◌, eqb, leb, List, [], ◌∷◌, map, length, replicate, sym, refl, ap, ◌∙◌, ap₂, arith, eqb-true, le-leb}
use borrow.Author.Tests.{eqb-false}
use Rattle.rules.specs.declared.Channel.{Channel}
use Rattle.rules.specs.declared.Conditions.{Conditions}
use Rattle.rules.specs.declared.State.{State}
use Rattle.turns.specs.declared.Waiter.{Waiter}
use Rattle.turns.specs.declared.Waiter.TheVariants.{Waits, Left}
use Rattle.turns.specs.declared.Turns.{Turns}
use Rattle.rules.specs.Basics.{every}
use Rattle.rules.specs.Registers.{standby}
use Rattle.rules.specs.Duty.{conditions_of}
use Rattle.rules.specs.Valid.{valid_channel, valid_of}
use Rattle.rules.specs.Tick.{rule_at, delay_of, leaves_zero, in_turn, wait_after, channels_tick, wait_tick}
use Rattle.rules.proofs.Tests.{and_left, and_right, and_both, by-test}
use Rattle.laws.proofs.Valid.{parts}
use Rattle.laws.proofs.ChannelTicks.{channel_ticks}
use Rattle.laws.proofs.Turns.{turn-stays, wait-stays, turn-held, wait-held, turn-free, wait-set}
use Rattle.laws.proofs.Waiting.{waits, alone, alone-last, not-leaving, still-none, start_shift, start-shift-wrap, leaves_at, stays-as-is, left-none, rests, stood, stood-none}
use Rattle.laws.proofs.Rows.{row_ticks, row_tick, rows_last}
use Rattle.laws.proofs.OwnWay.{none_rows}
use Rattle.laws.proofs.StateTicks.{row_after}
use Rattle.turns.specs.Turns.{may_leave, turn, wait_then, turns_tick, turns_after, ticks_waited}
use Rattle.turns.specs.Turns as turns
use Rattle.ticks.specs.Waiters.{waiter_of, turned}

module _ (k : Conditions) (t : ℕ) where
  -- a channel after m ticks, by how it waited
  abbrev present : ℕ → Waiter → Channel → Channel
  present m w ch = alone k (m - ticks_waited m w) (t + ticks_waited m w) ch

  -- while it waits it stands still; one that does not wait any more is by itself
  Goes : ℕ → Channel → Waiter → Type 0
  Goes m ch (Waits shift) = (waits k ch ≡ true) × (ch.spin ≡ 0) × (shift ≡ start_shift ch)
  Goes m ch (Left past) = (waits k (alone k (m - past) (t + past) ch) ≡ false) × (past ≤ m)

  -- one more tick, at the wait that those before it leave
  module _ (m delay wait : ℕ) (ch : Channel) where
    abbrev rule : Channel → Channel
    rule = rule_at k ((t + suc m) % 2 ^ 32)

    record Turned (w : Waiter) : Type 0 where
      turned : in_turn rule wait (present m w ch) ≡ present (suc m) (turn (may_leave (t + suc m) wait w) m w) ch
      waited : wait_after rule delay wait (present m w ch) ≡ wait_then (may_leave (t + suc m) wait w) delay wait
      goes : Goes (suc m) ch (turn (may_leave (t + suc m) wait w) m w)

    -- it waits
    module _ (shift : ℕ) (g : Goes m ch (Waits shift)) where
      still : (n : ℕ) → present n (Waits shift) ch ≡ ch
      unfolding channel_ticks
      still n = let none : n - n ≡ 0 = omega arith in rw none refl

      would : leaves_zero rule ch ≡ eqb ((t + suc m) % 2 ^ shift) 0
      unfolding Goes
      would =
          leaves_at k ch g.0 g.1 ((t + suc m) % 2 ^ 32)
          ∙ ap (λ n. eqb n 0) (start-shift-wrap ch (t + suc m)) ∙ ap (λ n. eqb ((t + suc m) % 2 ^ n) 0) (sym g.2)

      told : may_leave (t + suc m) wait (Waits shift) ≡ (eqb wait 0 && leaves_zero rule ch)
      unfolding may_leave
      told = rw would refl

      waits-on : may_leave (t + suc m) wait (Waits shift) ≡ false → in_turn rule wait ch ≡ ch × wait_after rule delay wait ch ≡ wait →
          Turned (Waits shift)
      unfolding Goes
      waits-on none both =
          record { turned = rw (none, still m, still (suc m)) both.0; waited = rw (none, still m) both.1; goes = rw none g }

      stays : leaves_zero rule ch ≡ false → Turned (Waits shift)
      unfolding Goes
      stays none =
          waits-on (told ∙ rw none (by-test (eqb wait 0) (λ z. rw z refl) (λ z. rw z refl)))
          (turn-stays rule ch none wait ∙ stays-as-is k ch g.0 g.1 ((t + suc m) % 2 ^ 32) none, wait-stays rule ch none delay wait)

      held : leaves_zero rule ch ≡ true → eqb wait 0 ≡ false → Turned (Waits shift)
      held would-leave some =
          let pos : 0 < wait = omega (arith, eqb-false wait 0 some) in
          waits-on (told ∙ rw some refl) (turn-held rule ch would-leave wait pos, wait-held rule ch would-leave wait pos delay)

      leaves : leaves_zero rule ch ≡ true → eqb wait 0 ≡ true → Turned (Waits shift)
      unfolding channel_ticks Goes
      leaves would-leave over =
          let yes : may_leave (t + suc m) wait (Waits shift) ≡ true = told ∙ rw (over, would-leave) refl in
          let none : wait ≡ 0 = eqb-true wait 0 over in
          let one : suc m - m ≡ 1 = omega arith in
          let at : t + m + 1 ≡ t + suc m = omega arith in
          record {
            turned = rw (yes, still m, none, one, at) (turn-free rule ch);
            waited = rw (yes, still m, none) (wait-set rule ch would-leave delay);
            goes = rw (yes, one, at) (left-none k rule ch would-leave, omega arith);
          }

    -- it does not
    alone-on : (past : ℕ) → Goes m ch (Left past) → Turned (Left past)
    unfolding may_leave Goes
    alone-on past g =
        let none = not-leaving k (present m (Left past) ch) g.0 ((t + suc m) % 2 ^ 32) in
        let n : suc (m - past) ≡ suc m - past = omega (arith, g.1) in
        let at : t + past + suc (m - past) ≡ t + suc m = omega (arith, g.1) in
        let next : rule (alone k (m - past) (t + past) ch) ≡ alone k (suc m - past) (t + past) ch =
        ap (λ c. rule_at k (c % 2 ^ 32) (alone k (m - past) (t + past) ch)) (sym at) ∙ alone-last k (m - past) (t + past) ch ∙ ap (λ x. alone k x (t + past) ch) n in
        record {
          turned = turn-stays rule _ none wait ∙ next;
          waited = wait-stays rule _ none delay wait;
          goes = (ap (waits k) (sym next) ∙ still-none k (alone k (m - past) (t + past) ch) g.0 ((t + suc m) % 2 ^ 32), omega (arith, g.1));
        }

    one-turn : (w : Waiter) → Goes m ch w → Turned w
    one-turn (Waits shift) g = by-test (leaves_zero rule ch) (λ l. by-test (eqb wait 0) (leaves shift g l) (held shift g l)) (stays shift g)
    one-turn (Left past) g = alone-on past g

  -- ---- all of them

  abbrev All : ℕ → List Channel → List Waiter → Type 0
  All m [] [] = Unit {0}
  All m [] (w ∷ ws) = ⊥
  All m (ch ∷ chs) [] = ⊥
  All m (ch ∷ chs) (w ∷ ws) = Goes m ch w × All m chs ws

  abbrev presents : ℕ → List Waiter → List Channel → List Channel
  presents m ws chs = stood k m t (map (ticks_waited m) ws) chs

  module _ (m delay : ℕ) where
    abbrev c : ℕ
    c = t + suc m

    record TurnedAll (wait : ℕ) (chs : List Channel) (ws : List Waiter) : Type 0 where
      turned : channels_tick (rule_at k (c % 2 ^ 32)) delay wait (presents m ws chs) ≡ presents (suc m) (turns_tick c m delay wait ws) chs
      waited : wait_tick (rule_at k (c % 2 ^ 32)) delay wait (presents m ws chs) ≡ turns.wait_left c delay wait ws
      goes : All (suc m) chs (turns_tick c m delay wait ws)

    all-turns : (wait : ℕ) (chs : List Channel) (ws : List Waiter) → All m chs ws → TurnedAll wait chs ws
    unfolding channels_tick wait_tick turns_tick turns.wait_left
    all-turns wait [] [] a = record { turned = refl; waited = refl; goes = tt }
    all-turns wait [] (w ∷ ws) a = absurd a
    all-turns wait (ch ∷ chs) [] a = absurd a
    all-turns wait (ch ∷ chs) (w ∷ ws) a =
        let this = one-turn m delay wait ch w a.0 in
        let rest = all-turns (wait_then (may_leave c wait w) delay wait) chs ws a.1 in
        record {
          turned =
              ap₂ (λ x xs. x ∷ xs) this.turned
              (ap (λ n. channels_tick (rule_at k (c % 2 ^ 32)) delay n (presents m ws chs)) this.waited ∙ rest.turned);
          waited = ap (λ n. wait_tick (rule_at k (c % 2 ^ 32)) delay n (presents m ws chs)) this.waited ∙ rest.waited;
          goes = (this.goes, rest.goes);
        }

-- ---- many ticks

module _ (k : Conditions) (delay t wait : ℕ) where
  abbrev begin : List Channel → List Waiter
  begin chs = map (waiter_of k) chs

  -- no tick is past
  begin-goes : (in_standby : Bool) (ch : Channel) → valid_channel in_standby ch ≡ true → Goes k t 0 ch (waiter_of k ch)
  unfolding channel_ticks Goes
  begin-goes in_standby ch v =
      by-test (waits k ch) (λ w. rw w (w, rests k in_standby ch v w, refl)) (λ w. rw w (w, omega arith))

  begin-present : (ch : Channel) → present k t 0 (waiter_of k ch) ch ≡ ch
  unfolding channel_ticks
  begin-present ch = by-test (waits k ch) (λ w. rw w refl) (λ w. rw w refl)

  begins : (in_standby : Bool) (chs : List Channel) → every (valid_channel in_standby) chs ≡ true →
      (presents k t 0 (begin chs) chs ≡ chs) × All k t 0 chs (begin chs)
  begins in_standby [] v = (refl, tt)
  begins in_standby (ch ∷ chs) v =
      let rest = begins in_standby chs (and_right (valid_channel in_standby ch) _ v) in
      (ap₂ (λ x xs. x ∷ xs) (begin-present ch) rest.0, (begin-goes in_standby ch (and_left _ _ v), rest.1))

  module _ (in_standby : Bool) (chs : List Channel) (v : every (valid_channel in_standby) chs ≡ true) where
    abbrev after : ℕ → Turns
    after m = turns_after delay t m (turns.turns wait (begin chs))

    all-ticks : (m : ℕ) → (row_ticks k delay m t (wait, chs) ≡ ((after m).wait, presents k t m (after m).waiters chs)) × All k t m chs (after m).waiters
    unfolding row_ticks row_tick turns_after
    all-ticks zero = let b = begins in_standby chs v in (ap (λ xs. (wait, xs)) (sym b.0), b.1)
    all-ticks (suc m) =
        let before = all-ticks m in
        let next = all-turns k t m delay ((after m).wait - 1) chs (after m).waiters before.1 in (
          rows_last k delay m t (wait, chs) ∙ ap (row_tick k delay ((t + suc m) % 2 ^ 32)) before.0 ∙ ap₂ (λ n xs. (n, xs)) next.waited next.turned,
          next.goes,
        )

-- ---- a span of a valid state, of whose ticks so many may move a channel

module _ (s : State) (v : valid_of s ≡ true) (m : ℕ) where
  all : (row_after m s ≡ ((turned s m (conditions_of s)).wait, presents (conditions_of s) s.timer.clock m (turned s m (conditions_of s)).waiters s.channels))
      × All (conditions_of s) s.timer.clock m s.channels (turned s m (conditions_of s)).waiters
  unfolding row_after
  all = all-ticks (conditions_of s) (delay_of s) s.timer.clock s.timer.wait (standby s.registers.control) s.channels (parts s v).channels m

  -- no channel waits longer than the span lasts
  low-each : (chs : List Channel) (ws : List Waiter) → All (conditions_of s) s.timer.clock m chs ws → every (λ n. leb n m) (map (ticks_waited m) ws) ≡ true
  unfolding Goes
  low-each [] [] a = refl
  low-each [] (w ∷ ws) a = absurd a
  low-each (ch ∷ chs) [] a = absurd a
  low-each (ch ∷ chs) (Waits shift ∷ ws) a = and_both (leb m m) _ (le-leb m m (omega arith)) (low-each chs ws a.1)
  low-each (ch ∷ chs) (Left past ∷ ws) a = and_both (leb past m) _ (le-leb past m a.0.1) (low-each chs ws a.1)

  -- what the functions give that work out who waits, and how long
  module _ (k : Conditions) (now : k ≡ conditions_of s) (after : Turns) (turns-are : after ≡ turned s m k)
      (waited : List ℕ) (waited-is : waited ≡ map (ticks_waited m) after.waiters) where
    turned-now : after ≡ turned s m (conditions_of s)
    turned-now = turns-are ∙ ap (turned s m) now

    pub waited-low : every (λ n. leb n m) waited ≡ true
    waited-low =
        ap (every (λ n. leb n m)) (waited-is ∙ ap (λ (r : Turns). map (ticks_waited m) r.waiters) turned-now)
        ∙ low-each s.channels (turned s m (conditions_of s)).waiters all.1

    pub row-turned : (after.wait, stood k m s.timer.clock waited s.channels) ≡ row_after m s
    row-turned =
        ap₂ (λ c ns. (after.wait, stood c m s.timer.clock ns s.channels)) now waited-is
        ∙ ap (λ (r : Turns). (r.wait, presents (conditions_of s) s.timer.clock m r.waiters s.channels)) turned-now ∙ sym all.0

-- where none waits
pub none-turned : (s : State) (m : ℕ) (k : Conditions) → k ≡ conditions_of s → every (λ ch. not (waits k ch)) s.channels ≡ true → length s.channels ≡ 6 →
    (s.timer.wait - m, stood k m s.timer.clock (replicate 6 0) s.channels) ≡ row_after m s
unfolding row_after
none-turned s m k now none six =
    let t = s.timer.clock in
    ap (λ n. (s.timer.wait - m, stood k m t (replicate n 0) s.channels)) (sym six)
    ∙ ap (λ chs. (s.timer.wait - m, chs)) (stood-none k m t s.channels)
    ∙ sym (none_rows k (delay_of s) m t s.timer.wait s.channels none)
    ∙ ap (λ c. row_ticks c (delay_of s) m t (s.timer.wait, s.channels)) now
