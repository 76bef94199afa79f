-- Many steps of a ramp at once: how often the clock is a multiple of the period, and how far that many steps lead.
use Prim.Native.Nat.{ℕ, suc, ◌+◌, ◌-◌, ◌*◌, ◌/◌, ◌%◌, ◌^◌, ◌≤◌, ◌<◌, min, max}
use mathlib.Core.Path.{◌≡◌, sym, ◌∙◌, ap}
use native.Mathlib.Nat.{add-suc, add-zero, add-mul, suc-mul, le_trans, mod-lt, div-add-mod', div-mul-le_self, le-div_iff_mul-le, div-lt_iff_lt-mul, lt-div-mul-add, mul-div_cancel, mul-le-mul_right}
use native.Mathlib.Omega.{arith}
use native.Mathlib.Decide.{dec_lt}
use lib.Arith.{digits_div, digits_mod, mod-mul}
use lib.Dec.{ltb, leb, eqb}
use lib.Pow.{pow-add, pow_pos}
use borrow.Author.Tests.{ltb-true, ltb-false, leb-true, leb-false, eqb-true, eqb-false, lt-ltb, le-ltb, le-leb}
use Rattle.std.specs.Prelude.{if◌then◌else◌}
use Rattle.rules.specs.Tick.{toward}
use Rattle.rules.proofs.Tests.{by-test}

-- what a test tells omega
ruleset told = (arith, ltb-true, ltb-false, leb-true, leb-false, eqb-true)

-- ---- steps

-- n steps from x towards the goal, and none beyond it
unfoldable pub approach : ℕ → ℕ → ℕ → ℕ
approach x goal n = if leb x goal then min (x + n) goal else max (x - n) goal

module _ (x goal : ℕ) where
  pub approach-up : (n : ℕ) → x ≤ goal → approach x goal n ≡ min (x + n) goal
  unfolding approach
  approach-up n l = rw (le-leb x goal l)

  pub approach-down : (n : ℕ) → goal ≤ x → approach x goal n ≡ max (x - n) goal
  unfolding approach
  approach-down n l = by-test (leb x goal) (λ e. rw e (omega told)) (λ e. rw e)

  -- a fact about a ramp, upwards and downwards
  pub either_way : {A : Type 0} → (x ≤ goal → A) → (goal ≤ x → A) → A
  either_way up down = by-test (leb x goal) (λ e. up (leb-true x goal e)) (λ e. down (omega told))

  toward-up : x ≤ goal → toward x goal ≡ min (x + 1) goal
  unfolding toward
  toward-up l = by-test (ltb x goal) (λ e. rw e (omega told)) (λ e. rw (e, le-ltb goal x l) (omega told))

  toward-down : goal ≤ x → toward x goal ≡ max (x - 1) goal
  unfolding toward
  toward-down l = rw (le-ltb x goal l) (by-test (ltb goal x) (λ e. rw e (omega told)) (λ e. rw e (omega told)))

  pub toward-lt : (limit : ℕ) → x < limit → goal < limit → toward x goal < limit
  toward-lt limit h g = either_way (λ l. omega (arith, toward-up l)) (λ l. omega (arith, toward-down l))

module _ (x goal : ℕ) where
  pub approach-none : approach x goal 0 ≡ x
  approach-none = either_way x goal (λ l. omega (arith, approach-up x goal 0 l)) (λ l. omega (arith, approach-down x goal 0 l))

  pub approach-more : (n : ℕ) → toward (approach x goal n) goal ≡ approach x goal (suc n)
  approach-more n =
      either_way x goal
      (λ l. let a = approach-up x goal n l in
      omega (arith, a, approach-up x goal (suc n) l, toward-up (approach x goal n) goal (omega (arith, a))))
      (λ l. let a = approach-down x goal n l in
      omega (arith, a, approach-down x goal (suc n) l, toward-down (approach x goal n) goal (omega (arith, a))))

  -- once there, no further
  pub approach-there : (n m : ℕ) → n ≤ m → approach x goal n ≡ goal → approach x goal m ≡ goal
  approach-there n m h e =
      either_way x goal
      (λ l. omega (arith, approach-up x goal n l, approach-up x goal m l))
      (λ l. omega (arith, approach-down x goal n l, approach-down x goal m l))

  pub toward-there : (n : ℕ) → approach x goal n ≡ goal → toward (approach x goal n) goal ≡ goal
  toward-there n e = let l : approach x goal n ≤ goal = omega arith in omega (arith, toward-up (approach x goal n) goal l)

  -- at 0 below the goal: it began there
  pub approach-zero : (n : ℕ) → approach x goal n ≡ 0 → 0 < goal → x ≡ 0
  approach-zero n e h =
      either_way x goal (λ l. omega (arith, approach-up x goal n l)) (λ l. omega (arith, approach-down x goal n l))

  -- short of the goal, on the side where it began
  pub approach-side : (n : ℕ) → (approach x goal n ≡ goal → ⊥) → ltb goal (approach x goal n) ≡ ltb goal x
  approach-side n away =
      either_way x goal
      (λ l. le-ltb goal (approach x goal n) (omega (arith, approach-up x goal n l)) ∙ sym (le-ltb goal x l))
      (λ l. let a : goal < approach x goal n = above (omega (arith, approach-down x goal n l)) in
      lt-ltb goal (approach x goal n) a ∙ sym (lt-ltb goal x (omega (arith, a, approach-down x goal n l))))
    where
      above : goal ≤ approach x goal n → goal < approach x goal n
      above h =
          by-test (eqb (approach x goal n) goal) (λ e. absurd (away (eqb-true _ _ e)))
          (λ e. omega (arith, eqb-false (approach x goal n) goal e))

-- ---- the clock's multiples of a period

-- how many numbers after t, up to t + k, are multiples of p
abbrev pub multiples : ℕ → ℕ → ℕ → ℕ
multiples p t k = (t + k) / p - t / p

module _ (p : ℕ) (pos : 0 < p) where
  -- the next number is in the same period, or it begins one
  within : (x : ℕ) → suc x ≡ x / p * p + suc (x % p)
  within x = omega (arith, div-add-mod' x p)

  begins : (x : ℕ) → (suc (x % p) < p → ⊥) → suc x ≡ suc (x / p) * p + 0
  begins x g = let h : p ≤ suc (x % p) = omega arith in rw suc-mul (omega (arith, div-add-mod' x p, mod-lt x pos))

  next_multiple : (x : ℕ) → suc x % p ≡ 0 → suc x / p ≡ suc (x / p)
  next_multiple x e =
      elim (dec_lt (suc (x % p)) p) [
        | yes l ↦ absurd (let z : suc x % p ≡ suc (x % p) = ap (λ n. n % p) (within x) ∙ digits_mod _ l in omega arith)
        | no g ↦ ap (λ n. n / p) (begins x g) ∙ digits_div _ pos
      ]

  no-multiple : (x : ℕ) → (suc x % p ≡ 0 → ⊥) → suc x / p ≡ x / p
  no-multiple x e =
      elim (dec_lt (suc (x % p)) p) [
        | yes l ↦ ap (λ n. n / p) (within x) ∙ digits_div _ l
        | no g ↦ absurd (e (ap (λ n. n % p) (begins x g) ∙ digits_mod _ pos))
      ]

  pub multiples-from : (t k : ℕ) → t / p ≤ (t + k) / p
  multiples-from t k = (le-div_iff_mul-le pos).1 (le_trans (div-mul-le_self t p) (omega arith))

  multiples-hit : (t k : ℕ) → (t + suc k) % p ≡ 0 → multiples p t (suc k) ≡ suc (multiples p t k)
  multiples-hit t k e = rw add-suc (omega (arith, next_multiple (t + k) (rw add-suc at e), multiples-from t k))

  multiples-miss : (t k : ℕ) → ((t + suc k) % p ≡ 0 → ⊥) → multiples p t (suc k) ≡ multiples p t k
  multiples-miss t k e = rw add-suc (omega (arith, no-multiple (t + k) (rw add-suc at e)))

  pub multiples-grow : (t k : ℕ) → multiples p t k ≤ multiples p t (suc k)
  multiples-grow t k =
      by-test (eqb ((t + suc k) % p) 0)
      (λ e. omega (arith, multiples-hit t k (eqb-true _ _ e)))
      (λ e. omega (arith, multiples-miss t k (eqb-false _ _ e)))

  -- one tick more on the way to the goal
  pub step-on-the-way : (x goal t k : ℕ) → let q = approach x goal (multiples p t k) in
      (if eqb ((t + suc k) % p) 0 then toward q goal else q) ≡ approach x goal (multiples p t (suc k))
  step-on-the-way x goal t k =
      by-test (eqb ((t + suc k) % p) 0)
      (λ e. rw (e, multiples-hit t k (eqb-true _ _ e)) (approach-more x goal (multiples p t k)))
      (λ e. rw (e, multiples-miss t k (eqb-false _ _ e)))

  -- the settling formula: after so many ticks there are d multiples, and after fewer there are fewer
  module _ (t d : ℕ) (far : 0 < d) where
    reach : t + ((t / p + d) * p - t) ≡ (t / p + d) * p
    reach =
        let one : 1 * p ≤ d * p = mul-le-mul_right p far in
        omega (arith, add-mul (t / p) d p, lt-div-mul-add {a = t} pos, one)

    pub multiples-settled : multiples p t ((t / p + d) * p - t) ≡ d
    multiples-settled = omega (arith, ap (λ n. n / p) reach ∙ mul-div_cancel (t / p + d) pos)

    pub multiples-sooner : (k : ℕ) → k < (t / p + d) * p - t → multiples p t k < d
    multiples-sooner k h =
        let l : t + k < (t / p + d) * p = omega (arith, reach) in
        omega (arith, (div-lt_iff_lt-mul pos).1 l)

pub multiples-none : (p t : ℕ) → multiples p t 0 ≡ 0
multiples-none p t = rw add-zero (omega arith)

-- a power of two up to 2 ^ 32 divides the clock's range, so the wrapped clock has the same multiples
pub wrap-keeps-remainder : (j x : ℕ) → j ≤ 32 → x % 2 ^ 32 % 2 ^ j ≡ x % 2 ^ j
wrap-keeps-remainder j x h =
    let e : 32 - j + j ≡ 32 = omega arith in
    let w : 4294967296 ≡ 2 ^ (32 - j) * 2 ^ j = ap (λ n. 2 ^ n) (sym e) ∙ pow-add 2 (32 - j) j in
    ap (λ n. x % n % 2 ^ j) w
    ∙ ap (λ n. n % 2 ^ j) (mod-mul x (pow_pos (32 - j)) (pow_pos j))
    ∙ digits_mod _ (mod-lt x (pow_pos j))
