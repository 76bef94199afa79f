-- The channels in turn, each at the wait that those before it leave, under any rule for a channel by itself.
use Prim.Native.Nat.{ℕ, zero, suc, ◌≤◌, ◌<◌}
use mathlib.Core.Path.{◌≡◌, refl, ◌∙◌, ap, ap₂}
use mathlib.Core.Bool.{Bool, true, false, ◌&&◌, ◌||◌}
use mathlib.Core.List.{List, [], ◌∷◌}
use native.Mathlib.Omega.{arith}
use lib.Dec.{ltb, eqb}
use lib.ListN.{length, get_or, set, take}
use borrow.Author.Tests.{eqb-true, ltb-false, le-ltb, lt-ltb, eq-eqb, ne_eqb}
use Rattle.laws.proofs.Types.{Channel}
use Rattle.rules.specs.Basics.{every, some}
use Rattle.rules.specs.State.{blank}
use Rattle.rules.specs.Tick.{leaves_zero, in_turn, wait_after, channels_tick, wait_tick}
use Rattle.rules.proofs.Tests.{and_left, and_right, and_both, by-test, choice}

-- ---- one channel

module _ (rule : Channel → Channel) (ch : Channel) where
  -- one that does not leave 0
  module _ (stays : leaves_zero rule ch ≡ false) where
    pub turn-stays : (wait : ℕ) → in_turn rule wait ch ≡ rule ch
    unfolding in_turn
    turn-stays wait = rw stays refl

    pub wait-stays : (delay wait : ℕ) → wait_after rule delay wait ch ≡ wait
    unfolding wait_after
    wait-stays delay wait = rw stays refl

  -- one that would leave it, and may not
  module _ (leaves : leaves_zero rule ch ≡ true) (wait : ℕ) (some : 0 < wait) where
    pub turn-held : in_turn rule wait ch ≡ ch
    unfolding in_turn
    turn-held = rw (leaves, lt-ltb 0 wait some) refl

    pub wait-held : (delay : ℕ) → wait_after rule delay wait ch ≡ wait
    unfolding wait_after
    wait-held delay = let e : eqb wait 0 ≡ false = ne_eqb wait 0 (λ z. omega arith) in rw (leaves, e) refl

  -- at wait 0 each may; one that leaves sets it
  pub turn-free : in_turn rule 0 ch ≡ rule ch
  unfolding in_turn
  turn-free = by-test (leaves_zero rule ch) (λ e. rw e refl) (λ e. rw e refl)

  pub wait-set : leaves_zero rule ch ≡ true → (delay : ℕ) → wait_after rule delay 0 ch ≡ delay
  unfolding wait_after
  wait-set leaves delay = rw leaves refl

  -- it is as it was, or as the rule leaves it
  turn-either : (P : Channel → Type 0) → P ch → P (rule ch) → (wait : ℕ) → P (in_turn rule wait ch)
  unfolding in_turn
  turn-either P now next wait = choice P (leaves_zero rule ch && ltb 0 wait) ch (rule ch) (λ _. now) (λ _. next)

  wait-either : (P : ℕ → Type 0) (delay wait : ℕ) → P delay → P wait → P (wait_after rule delay wait ch)
  unfolding wait_after
  wait-either P delay wait set now = choice P (leaves_zero rule ch && eqb wait 0) delay wait (λ _. set) (λ _. now)

  -- the wait does not fall in a turn
  wait-grows : (delay wait : ℕ) → wait ≤ wait_after rule delay wait ch
  unfolding wait_after
  wait-grows delay wait =
      choice (λ n. wait ≤ n) (leaves_zero rule ch && eqb wait 0) delay wait
      (λ e. omega (arith, eqb-true wait 0 (and_right (leaves_zero rule ch) _ e)))
      (λ _. omega arith)

-- ---- all of them

module _ (rule : Channel → Channel) (delay : ℕ) where
  -- a test that the rule keeps
  pub turns-keep : (test : Channel → Bool) → ((ch : Channel) → test ch ≡ true → test (rule ch) ≡ true) →
      (wait : ℕ) (chs : List Channel) → every test chs ≡ true → every test (channels_tick rule delay wait chs) ≡ true
  unfolding channels_tick
  turns-keep test kept wait [] e = refl
  turns-keep test kept wait (ch ∷ chs) e =
      let now = and_left (test ch) (every test chs) e in
      and_both _ _ (turn-either rule ch (λ x. test x ≡ true) now (kept ch now) wait)
      (turns-keep test kept (wait_after rule delay wait ch) chs (and_right (test ch) (every test chs) e))

  -- a flag of a channel that the rule leaves
  pub turns_same : (told : Channel → Bool) → ((ch : Channel) → told (rule ch) ≡ told ch) →
      (wait : ℕ) (chs : List Channel) → some told (channels_tick rule delay wait chs) ≡ some told chs
  unfolding channels_tick
  turns_same told same wait [] = refl
  turns_same told same wait (ch ∷ chs) =
      ap₂ (λ a b. a || b) (turn-either rule ch (λ x. told x ≡ told ch) refl (same ch) wait) (turns_same told same (wait_after rule delay wait ch) chs)

  pub turns-long : (wait : ℕ) (chs : List Channel) → length (channels_tick rule delay wait chs) ≡ length chs
  unfolding channels_tick
  turns-long wait [] = refl
  turns-long wait (ch ∷ chs) = ap (λ n. suc n) (turns-long (wait_after rule delay wait ch) chs)

  -- a rule that changes nothing
  module _ (idle : (ch : Channel) → rule ch ≡ ch) where
    idle-stays : (ch : Channel) → leaves_zero rule ch ≡ false
    unfolding leaves_zero
    idle-stays ch =
        rw idle
        (by-test (eqb ch.ramp 0) (λ e. rw e (le-ltb 0 ch.ramp (omega (arith, eqb-true ch.ramp 0 e)))) (λ e. rw e refl))

    pub turns-idle : (wait : ℕ) (chs : List Channel) → channels_tick rule delay wait chs ≡ chs
    unfolding channels_tick
    turns-idle wait [] = refl
    turns-idle wait (ch ∷ chs) = ap₂ (λ x xs. x ∷ xs) (turn-stays rule ch (idle-stays ch) wait ∙ idle ch) (turns-idle (wait_after rule delay wait ch) chs)

    pub wait-idle : (wait : ℕ) (chs : List Channel) → wait_tick rule delay wait chs ≡ wait
    unfolding wait_tick
    wait-idle wait [] = refl
    wait-idle wait (ch ∷ chs) =
        ap (λ w. wait_tick rule delay w chs) (wait-stays rule ch (idle-stays ch) delay wait) ∙ wait-idle wait chs

  -- the wait is that before, or the delay
  pub wait-below : (most : ℕ) → delay ≤ most → (wait : ℕ) (chs : List Channel) → wait ≤ most → wait_tick rule delay wait chs ≤ most
  unfolding wait_tick
  wait-below most d wait [] w = w
  wait-below most d wait (ch ∷ chs) w = wait-below most d (wait_after rule delay wait ch) chs (wait-either rule ch (λ n. n ≤ most) delay wait d w)

  pub turns-keep-wait : (wait : ℕ) (chs : List Channel) → wait ≤ wait_tick rule delay wait chs
  unfolding wait_tick
  turns-keep-wait wait [] = omega arith
  turns-keep-wait wait (ch ∷ chs) = omega (arith, wait-grows rule ch delay wait, turns-keep-wait (wait_after rule delay wait ch) chs)

-- ---- the channels up to one of them

module _ (rule : Channel → Channel) (delay : ℕ) where
  -- one of them, at the wait that those before it leave
  pub turns_at : (wait : ℕ) (chs : List Channel) (n : ℕ) (d e : Channel) → n < length chs →
      get_or (channels_tick rule delay wait chs) n e ≡ in_turn rule (wait_tick rule delay wait (take n chs)) (get_or chs n d)
  unfolding channels_tick wait_tick
  turns_at wait [] n d e h = absurd (omega arith)
  turns_at wait (ch ∷ chs) zero d e h = refl
  turns_at wait (ch ∷ chs) (suc n) d e h = turns_at (wait_after rule delay wait ch) chs n d e (omega arith)

  -- where none of those before it leaves, the wait is that of the tick
  pub wait-upto : (wait : ℕ) (chs : List Channel) (i : ℕ) → ((n : ℕ) → n < i → leaves_zero rule (get_or chs n blank) ≡ false) →
      wait_tick rule delay wait (take i chs) ≡ wait
  unfolding wait_tick
  wait-upto wait chs zero stay = refl
  wait-upto wait [] (suc i) stay = refl
  wait-upto wait (ch ∷ chs) (suc i) stay =
      ap (λ w. wait_tick rule delay w (take i chs)) (wait-stays rule ch (stay 0 (omega arith)) delay wait)
      ∙ wait-upto wait chs i (λ n l. stay (suc n) (omega arith))

-- ---- at most one leaves, and then the wait is the delay

module _ (rule : Channel → Channel) (delay : ℕ) (some : 0 < delay) where
  -- it leaves 0
  abbrev pub Left : ℕ → List Channel → ℕ → Type 0
  Left wait chs i = ((get_or chs i blank).ramp ≡ 0) × (0 < (get_or (channels_tick rule delay wait chs) i blank).ramp)

  turn-left : (wait : ℕ) (ch : Channel) → ch.ramp ≡ 0 → 0 < (in_turn rule wait ch).ramp → (leaves_zero rule ch ≡ true) × (wait ≡ 0)
  unfolding in_turn leaves_zero
  turn-left wait ch z up =
      by-test (ltb 0 (rule ch).ramp)
      (λ l. by-test (ltb 0 wait)
      (λ w. absurd (let low : 0 < ch.ramp = rw (eq-eqb ch.ramp 0 z, l, w) at up in omega arith))
      (λ w. (rw (eq-eqb ch.ramp 0 z, l) refl, omega (arith, ltb-false 0 wait w))))
      (λ l. absurd (let low : 0 < (rule ch).ramp = rw (eq-eqb ch.ramp 0 z, l) at up in omega (arith, ltb-false 0 (rule ch).ramp l)))

  -- above 0 the wait stays, and none leaves
  wait-stands : (wait : ℕ) (chs : List Channel) → 0 < wait → wait_tick rule delay wait chs ≡ wait
  unfolding wait_tick
  wait-stands wait [] w = refl
  wait-stands wait (ch ∷ chs) w =
      let e : wait_after rule delay wait ch ≡ wait =
      by-test (leaves_zero rule ch) (λ l. wait-held rule ch l wait w delay) (λ l. wait-stays rule ch l delay wait) in
      ap (λ n. wait_tick rule delay n chs) e ∙ wait-stands wait chs w

  pub left-at-zero : (wait : ℕ) (chs : List Channel) (i : ℕ) → Left wait chs i → wait ≡ 0
  unfolding channels_tick
  left-at-zero wait [] i l = absurd (omega (arith, l.1))
  left-at-zero wait (ch ∷ chs) zero l = (turn-left wait ch l.0 l.1).1
  left-at-zero wait (ch ∷ chs) (suc i) l =
      let z = left-at-zero (wait_after rule delay wait ch) chs i l in
      omega (arith, wait-grows rule ch delay wait)

  -- it sets the wait
  pub left-sets : (wait : ℕ) (chs : List Channel) (i : ℕ) → Left wait chs i → wait_tick rule delay wait chs ≡ delay
  unfolding channels_tick wait_tick
  left-sets wait [] i l = absurd (omega (arith, l.1))
  left-sets wait (ch ∷ chs) zero l =
      let t = turn-left wait ch l.0 l.1 in
      let e : wait_after rule delay wait ch ≡ delay = ap (λ w. wait_after rule delay w ch) t.1 ∙ wait-set rule ch t.0 delay in
      ap (λ w. wait_tick rule delay w chs) e ∙ wait-stands delay chs some
  left-sets wait (ch ∷ chs) (suc i) l = left-sets (wait_after rule delay wait ch) chs i l

  -- no other does
  first-left : (wait : ℕ) (ch : Channel) (chs : List Channel) (j : ℕ) → ch.ramp ≡ 0 → 0 < (in_turn rule wait ch).ramp →
      Left (wait_after rule delay wait ch) chs j → ⊥
  first-left wait ch chs j z up l =
      let t = turn-left wait ch z up in
      let e : wait_after rule delay wait ch ≡ delay = ap (λ w. wait_after rule delay w ch) t.1 ∙ wait-set rule ch t.0 delay in
      omega (arith, some, e, left-at-zero (wait_after rule delay wait ch) chs j l)

  pub left-same : (wait : ℕ) (chs : List Channel) (i j : ℕ) → Left wait chs i → Left wait chs j → i ≡ j
  unfolding channels_tick
  left-same wait [] i j a b = absurd (omega (arith, a.1))
  left-same wait (ch ∷ chs) zero zero a b = refl
  left-same wait (ch ∷ chs) zero (suc j) a b = absurd (first-left wait ch chs j a.0 a.1 b)
  left-same wait (ch ∷ chs) (suc i) zero a b = absurd (first-left wait ch chs i b.0 b.1 a)
  left-same wait (ch ∷ chs) (suc i) (suc j) a b = ap (λ n. suc n) (left-same (wait_after rule delay wait ch) chs i j a b)
