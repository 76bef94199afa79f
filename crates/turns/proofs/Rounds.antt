-- The ticks up to the next one in which a channel leaves, that tick, and that fewer wait after it.
use Prim.Native.Nat.{ℕ, zero, suc, ◌+◌, ◌-◌, ◌≤◌, ◌<◌}
use mathlib.Core.Path.{◌≡◌, refl, sym, ◌∙◌, ap, ap₂}
use mathlib.Core.Bool.{true, false, false≢true}
use mathlib.Core.List.{List, [], ◌∷◌}
use native.Mathlib.Nat.{add-zero, sub-zero}
use native.Mathlib.Omega.{arith}
use Rattle.rules.specs.Basics.{some}
use Rattle.rules.proofs.Tests.{by-test}
use Rattle.turns.specs.Types.{Waiter, Waits, Left, Turns}
use Rattle.turns.specs.Turns.{turns, may_leave, turns_tick, wait_left, ticked, fallen, turns_after}
use Rattle.turns.specs.Departures.{leaves_in}

-- a tick in which none leaves changes nothing
module _ (clock past delay : ℕ) where
  none-leaves : (wait : ℕ) (ws : List Waiter) → some (may_leave clock wait) ws ≡ false → ticked clock past delay (turns wait ws) ≡ turns wait ws
  unfolding wait_left turns_tick
  none-leaves wait [] e = refl
  none-leaves wait (w ∷ ws) e =
      by-test (may_leave clock wait w)
      (λ m. absurd (false≢true (sym e ∙ rw m refl)))
      (λ m. rw m (ap (λ (now : Turns). turns now.wait (w ∷ now.waiters)) (none-leaves wait ws (rw m at e))))

-- ---- who waits after it

unfoldable pub waiting : List Waiter → ℕ
waiting [] = 0
waiting (Waits shift ∷ ws) = suc (waiting ws)
waiting (Left past ∷ ws) = waiting ws

module _ (clock past delay : ℕ) where
  no_more : (wait : ℕ) (ws : List Waiter) → waiting (turns_tick clock past delay wait ws) ≤ waiting ws
  unfolding turns_tick waiting may_leave
  no_more wait [] = omega arith
  no_more wait (Waits shift ∷ ws) =
      by-test (may_leave clock wait (Waits shift))
      (λ m. rw m (omega (arith, no_more delay ws)))
      (λ m. rw m (omega (arith, no_more wait ws)))
  no_more wait (Left past ∷ ws) = no_more wait ws

  fewer : (wait : ℕ) (ws : List Waiter) → some (may_leave clock wait) ws ≡ true → waiting (turns_tick clock past delay wait ws) < waiting ws
  unfolding turns_tick waiting may_leave
  fewer wait [] e = absurd (false≢true e)
  fewer wait (Waits shift ∷ ws) e =
      by-test (may_leave clock wait (Waits shift))
      (λ m. rw m (omega (arith, no_more delay ws)))
      (λ m. rw m (omega (arith, fewer wait ws (rw m at e))))
  fewer wait (Left past ∷ ws) e = fewer wait ws e

-- ---- a round: the ticks up to the next one in which a channel leaves, and that one

module _ (delay t : ℕ) (begin : Turns) (past : ℕ) (now : Turns) (is : turns_after delay t past begin ≡ now) where
  -- one more tick
  one_more : (n : ℕ) → turns_after delay t (past + n) begin ≡ fallen n now →
      turns_after delay t (past + suc n) begin ≡ ticked (t + (past + suc n)) (past + n) delay (fallen (suc n) now)
  unfolding turns_after
  one_more n before =
      let e : past + suc n ≡ suc (past + n) = omega arith in
      let f : now.wait - n - 1 ≡ now.wait - suc n = omega arith in
      ap (λ m. turns_after delay t m begin) e
      ∙ ap (λ (r : Turns). ticked (t + suc (past + n)) (past + n) delay (fallen 1 r)) before
      ∙ ap₂ (λ m w. ticked (t + m) (past + n) delay (turns w now.waiters)) (sym e) f

  -- the ticks before the next one in which a channel leaves
  pub on-quietly : (n : ℕ) → ((k : ℕ) → 0 < k → k ≤ n → leaves_in (t + past) k now ≡ false) → turns_after delay t (past + n) begin ≡ fallen n now
  on-quietly zero quiet = rw (add-zero, sub-zero) is
  on-quietly (suc n) quiet =
      let e : t + past + suc n ≡ t + (past + suc n) = omega arith in
      one_more n (on-quietly n (λ k pos l. quiet k pos (omega arith)))
      ∙ none-leaves (t + (past + suc n)) (past + n) delay (now.wait - suc n) now.waiters (rw (← e) (quiet (suc n) (omega arith) (omega arith)))

  module _ (tick : ℕ) (some-ticks : 0 < tick) where
    abbrev left : Turns
    left = ticked (t + (past + tick)) (past + tick - 1) delay (fallen tick now)

    pub round : ((k : ℕ) → 0 < k → k < tick → leaves_in (t + past) k now ≡ false) → turns_after delay t (past + tick) begin ≡ left
    round quiet =
        let n = tick - 1 in
        let e : suc n ≡ tick = omega arith in
        let f : past + suc n - 1 ≡ past + n = omega arith in
        rw (← e, f) (one_more n (on-quietly n (λ k pos l. quiet k pos (omega arith))))

    pub fewer-wait : leaves_in (t + past) tick now ≡ true → waiting left.waiters < waiting now.waiters
    fewer-wait one =
        let e : t + past + tick ≡ t + (past + tick) = omega arith in
        fewer (t + (past + tick)) (past + tick - 1) delay (now.wait - tick) now.waiters (rw (← e) one)
