-- The next tick in which one leaves, by numbers alone.
use Prim.Native.Nat.{ℕ, zero, suc, ◌+◌, ◌-◌, ◌*◌, ◌/◌, ◌%◌, ◌^◌, ◌≤◌, ◌<◌, min, max}
use mathlib.Core.Path.{◌≡◌, refl, sym, ◌∙◌, ap}
use mathlib.Core.Bool.{true, false, ◌&&◌, or-true}
use mathlib.Core.List.{List, [], ◌∷◌}
use native.Mathlib.Nat.{suc-mul, div-add-mod', div-lt_iff_lt-mul, lt-div-mul-add, mul-le-mul_right}
use native.Mathlib.Omega.{arith}
use lib.Dec.{leb, eqb}
use lib.Arith.{digits_mod}
use lib.Pow.{pow_pos}
use borrow.Author.Tests.{leb-true, leb-false, eqb-true, eqb-false, eq-eqb, ne_eqb}
use Rattle.std.proofs.Math.Pow.{mod-mod-pow}
use Rattle.std.specs.Prelude.{Option, None, Some, MatchOption}
use Rattle.std.specs.Bool.{then_some}
use Rattle.std.specs.List.{filter_map, fold, reduce, Contains, All}
use Rattle.rules.specs.Basics.{some}
use Rattle.rules.proofs.Tests.{by-test}
use Rattle.turns.specs.Types.{Waiter, Waits, Left, Turns}
use Rattle.turns.specs.Turns.{period_of, may_leave}
use Rattle.turns.specs.Departures.{up_to, shortest, leaves_in, IsNext}

-- ---- the next multiple

module _ (p : ℕ) (pos : 0 < p) (x : ℕ) where
  up-to-from : x ≤ up_to p x
  up-to-from = omega (arith, lt-div-mul-add {a = x + (p - 1)} pos)

  up-to-least : (y : ℕ) → x ≤ y → y % p ≡ 0 → up_to p x ≤ y
  up-to-least y l z =
      let e : y / p * p ≡ y = omega (arith, div-add-mod' y p) in
      let over : x + (p - 1) < suc (y / p) * p = rw suc-mul (omega arith) in
      let q : (x + (p - 1)) / p ≤ y / p = omega (arith, (div-lt_iff_lt-mul pos).1 over) in
      omega (arith, mul-le-mul_right p q)

  up-to-multiple : up_to p x % p ≡ 0
  up-to-multiple = let n = (x + (p - 1)) / p in let e : n * p ≡ n * p + 0 = omega arith in ap (λ y. y % p) e ∙ digits_mod n pos

  -- no ticks to it from a multiple, and some from any other clock
  pub none-to-multiple : (n : ℕ) → x + n ≡ up_to p x → eqb n 0 ≡ eqb (x % p) 0
  none-to-multiple n e =
      by-test (eqb n 0)
      (λ z. let here : up_to p x ≡ x = omega (arith, eqb-true n 0 z) in z ∙ sym (eq-eqb _ 0 (sym (ap (λ y. y % p) here) ∙ up-to-multiple)))
      (λ z. z ∙ sym (ne_eqb _ 0 (λ m. absurd (let far = up-to-least x (omega arith) m in omega (arith, eqb-false n 0 z)))))

-- a multiple of a power of two is one of each lesser power
lesser-divides : (low high x : ℕ) → low ≤ high → x % 2 ^ high ≡ 0 → x % 2 ^ low ≡ 0
lesser-divides low high x l m =
    let e : high - low + low ≡ high = omega arith in
    let zero-mod : 0 % 2 ^ low ≡ 0 = omega (arith, pow_pos low) in
    sym (mod-mod-pow x (high - low) low) ∙ ap (λ n. x % 2 ^ n % 2 ^ low) e ∙ ap (λ y. y % 2 ^ low) m ∙ zero-mod

-- ---- the least of some numbers

least-first : (a : ℕ) (xs : List ℕ) → fold min a xs ≤ a
least-first a [] = omega arith
least-first a (x ∷ xs) = omega (arith, least-first (min a x) xs)

least-of : (a : ℕ) (xs : List ℕ) → All (λ x. fold min a xs ≤ x) (a ∷ xs)
least-of a xs zero d l = least-first a xs
least-of a [] (suc k) d l = absurd (omega arith)
least-of a (x ∷ xs) (suc zero) d l = omega (arith, least-first (min a x) xs)
least-of a (x ∷ xs) (suc (suc k)) d l = least-of (min a x) xs (suc k) d (omega arith)

least-is : (a : ℕ) (xs : List ℕ) → Contains (a ∷ xs) (fold min a xs)
least-is a [] = (0, omega arith, refl)
least-is a (x ∷ xs) = place (least-is (min a x) xs)
  where
    place : Contains (min a x ∷ xs) (fold min (min a x) xs) → Contains (a ∷ x ∷ xs) (fold min (min a x) xs)
    place (zero, l, e) =
        by-test (leb a x)
        (λ h. let same : a ≡ min a x = omega (arith, leb-true a x h) in (0, omega arith, same ∙ e))
        (λ h. let same : x ≡ min a x = omega (arith, leb-false a x h) in (1, omega arith, same ∙ e))
    place (suc k, l, e) = (suc (suc k), omega arith, e)

-- none is there, or one that is the least
Least : List ℕ → Option ℕ → Type 0
Least xs r = MatchOption r (xs ≡ []) (λ least. Contains xs least × All (λ x. least ≤ x) xs)

least : (xs : List ℕ) → Least xs (reduce min xs)
unfolding Least
least [] = refl
least (x ∷ xs) = (least-is x xs, least-of x xs)

-- ---- who leaves at a clock

none-waits : (clock wait : ℕ) (ws : List Waiter) → filter_map period_of ws ≡ [] → some (may_leave clock wait) ws ≡ false
unfolding may_leave
none-waits clock wait [] e = refl
none-waits clock wait (Waits shift ∷ ws) e = cc
none-waits clock wait (Left past ∷ ws) e = none-waits clock wait ws e

module _ (clock least : ℕ) where
  none-leaves : (wait : ℕ) (ws : List Waiter) → All (λ shift. least ≤ shift) (filter_map period_of ws) → (wait ≡ 0 → clock % 2 ^ least ≡ 0 → ⊥) →
      some (may_leave clock wait) ws ≡ false
  unfolding may_leave
  none-leaves wait [] all not-now = refl
  none-leaves wait (Waits shift ∷ ws) all not-now =
      let stays : (eqb wait 0 && eqb (clock % 2 ^ shift) 0) ≡ false =
      by-test (eqb wait 0)
      (λ z. by-test (eqb (clock % 2 ^ shift) 0)
      (λ m. absurd (not-now (eqb-true wait 0 z) (lesser-divides least shift clock (all 0 0 (omega arith)) (eqb-true _ 0 m))))
      (λ m. rw (z, m) refl))
      (λ z. rw z refl) in
      rw stays (none-leaves wait ws (λ k d l. all (suc k) d (omega arith)) not-now)
  none-leaves wait (Left past ∷ ws) all not-now = none-leaves wait ws all not-now

  one-leaves : (ws : List Waiter) → clock % 2 ^ least ≡ 0 → Contains (filter_map period_of ws) least → some (may_leave clock 0) ws ≡ true
  unfolding may_leave
  one-leaves [] m (k, l, e) = absurd (omega arith)
  one-leaves (Waits shift ∷ ws) m (zero, l, e) = rw (e, eq-eqb _ 0 m) refl
  one-leaves (Waits shift ∷ ws) m (suc k, l, e) = rw (one-leaves ws m (k, omega arith, e)) (or-true (eqb (clock % 2 ^ shift) 0))
  one-leaves (Left past ∷ ws) m (k, l, e) = one-leaves ws m (k, l, e)

-- ---- the first of the ticks after clock t

module _ (t : ℕ) (now : Turns) where
  pub never : None ≡ shortest now.waiters → (n : ℕ) → leaves_in t n now ≡ false
  unfolding Least
  never is n = none-waits (t + n) (now.wait - n) now.waiters (rw (← is) at (least (filter_map period_of now.waiters)))

  module _ (short : ℕ) (is : Some short ≡ shortest now.waiters) (tick : ℕ) (to : t + tick ≡ up_to (2 ^ short) (t + max now.wait 1)) where
    is-least : Contains (filter_map period_of now.waiters) short × All (λ x. short ≤ x) (filter_map period_of now.waiters)
    unfolding Least
    is-least = rw (← is) at (least (filter_map period_of now.waiters))

    first-late : max now.wait 1 ≤ tick
    first-late = omega (arith, up-to-from (2 ^ short) (pow_pos short) (t + max now.wait 1))

    first-leaves : leaves_in t tick now ≡ true
    first-leaves =
        let over : now.wait - tick ≡ 0 = omega (arith, first-late) in
        rw (over, to) (one-leaves _ short now.waiters (up-to-multiple (2 ^ short) (pow_pos short) (t + max now.wait 1)) is-least.0)

    before-first : (n : ℕ) → 0 < n → n < tick → leaves_in t n now ≡ false
    before-first n pos l =
        none-leaves (t + n) short (now.wait - n) now.waiters is-least.1
        (λ over m. absurd (let far = up-to-least (2 ^ short) (pow_pos short) (t + max now.wait 1) (t + n) (omega arith) m in omega arith))

    -- if it comes in time
    pub next : (ticks : ℕ) → IsNext t now ticks (then_some (leb tick ticks) tick)
    next ticks =
        by-test (leb tick ticks)
        (λ l. rw l (omega (arith, first-late), leb-true tick ticks l, first-leaves, before-first))
        (λ l. rw l (λ n pos few. before-first n pos (omega (arith, leb-false tick ticks l))))
