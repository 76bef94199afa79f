-- One tick as a loop makes it: the first n have had their turn.
use Prim.Native.Nat.{ℕ, suc, ◌+◌, ◌<◌, ◌≤◌}
use mathlib.Core.Path.{◌≡◌, refl, sym, ◌∙◌, ap, ap₂}
use mathlib.Core.Bool.{true, false}
use mathlib.Core.List.{List, [], ◌∷◌, ◌++◌}
use native.Mathlib.Omega.{arith}
use Rattle.std.proofs.Common.{length, get_or, set, take, drop, append_assoc, append-nil, add-one, drop-cons, drop_of_length-le, length-set}
use Rattle.std.proofs.Math.Seq.{take_all}
use Rattle.std.proofs.lemmas.List.{take_more, take_more_set, drop-set-lt}
use Rattle.turns.specs.Types.{Waiter, Left, Turns}
use Rattle.turns.specs.Turns.{turns, may_leave, turn, wait_then, turns_tick, wait_left, ticked}

module _ (clock past delay : ℕ) where
  turns-long : (wait : ℕ) (ws : List Waiter) → length (turns_tick clock past delay wait ws) ≡ length ws
  unfolding turns_tick
  turns-long wait [] = refl
  turns-long wait (w ∷ ws) = ap (λ n. suc n) (turns-long (wait_then (may_leave clock wait w) delay wait) ws)

module _ (clock past delay : ℕ) (begin : Turns) where
  -- the others are as they were, and come to what they would have come to
  pub record Turned (wait : ℕ) (ws : List Waiter) (n : ℕ) : Type 0 where
    pub left : wait_left clock delay wait (drop n ws) ≡ wait_left clock delay begin.wait begin.waiters
    pub next : take n ws ++ turns_tick clock past delay wait (drop n ws) ≡ turns_tick clock past delay begin.wait begin.waiters
    pub long : length ws ≡ 6

  module _ (wait : ℕ) (ws : List Waiter) (n : ℕ) (d : Waiter) (few : n < length ws) (v : Turned wait ws n) where
    abbrev w : Waiter
    w = get_or ws n d

    rest : drop n ws ≡ w ∷ drop (n + 1) ws
    rest = rw add-one (drop-cons ws n d few)

    left_then : wait_left clock delay (wait_then (may_leave clock wait w) delay wait) (drop (n + 1) ws) ≡ wait_left clock delay begin.wait begin.waiters
    unfolding wait_left
    left_then = rw rest at v.left

    next_then : take n ws ++ turn (may_leave clock wait w) past w ∷ turns_tick clock past delay (wait_then (may_leave clock wait w) delay wait) (drop (n + 1) ws)
        ≡ turns_tick clock past delay begin.wait begin.waiters
    unfolding turns_tick
    next_then = rw rest at v.next

    pub stays : may_leave clock wait w ≡ false → Turned wait ws (n + 1)
    stays m =
        record {
          left = rw m at left_then;
          next = rw (take_more ws n d few, append_assoc) (rw m at next_then);
          long = v.long;
        }

    pub leaves : may_leave clock wait w ≡ true → Turned delay (set ws n (Left past)) (n + 1)
    leaves m =
        let others = drop-set-lt (n + 1) ws n (Left past) (omega arith) in
        record {
          left = rw others (rw m at left_then);
          next = rw (others, take_more_set ws n (Left past) few, append_assoc) (rw m at next_then);
          long = length-set ws n (Left past) ∙ v.long;
        }

  pub all-turned : (wait : ℕ) (ws : List Waiter) (n : ℕ) → 6 ≤ n → Turned wait ws n → turns wait ws ≡ ticked clock past delay begin
  unfolding wait_left turns_tick
  all-turned wait ws n h v =
      let none : drop n ws ≡ [] = drop_of_length-le ws (omega (arith, v.long)) in
      ap₂ turns (rw none at v.left) (sym (append-nil ws) ∙ ap (λ xs. xs ++ []) (sym (take_all n ws (omega (arith, v.long)))) ∙ (rw none at v.next))
