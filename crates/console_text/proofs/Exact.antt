-- An f64 that is a number of 512ths, or of eighths, exactly: a number divided by 512 is exact below 2 ^ 53, so comparing with it counts them.
use Prim.Native.Nat.{ℕ, zero, suc, ◌+◌, ◌-◌, ◌*◌, ◌/◌, ◌^◌, ◌≤◌, ◌<◌}
use mathlib.Core.Path.{◌≡◌, sym, ap, ◌∙◌}
use mathlib.Core.Bool.{Bool, true, false, not, ◌&&◌, ◌||◌}
use mathlib.Core.List.{◌++◌}
use native.Mathlib.Nat.{two-pow-succ, mul_comm, mul_assoc, mul_right_comm, zero-mul, mul-pos, mul-lt-mul_of_pos_right, mul-le-mul_right}
use native.Mathlib.Decide.{dec_lt}
use native.Mathlib.Omega.{arith}
use lib.Dec.{leb, ltb, eqb}
use lib.Pow.{pow_pos}
use lib.IntN.{ℤ, pos, negsuc, nat_abs}
use lib.Signed.{non_neg}
use lib.Ieee.{Float, nan, inf, fin, up, down, neg, le, lt, eq}
use lib.Ieee.Exact.{HasValue}
use lib.Ieee.Fits.{down_pos}
use borrow.Author.Tests.{lt-ltb, le-ltb, le-leb, lt-leb, eq-eqb, ne_eqb}
use Rattle.std.specs.Prelude.{if◌then◌else◌}
use Rattle.rules.specs.Reading.{over512}
use Rattle.laws.proofs.Exact.{over-512-exact}
use Rattle.rules.proofs.Tests.{by-test}
use Rattle.console_text.specs.Signed.{sign_of}
use Rattle.console_text.specs.Fraction.{parts_after, parts_of, three_decimals, eighths_text, signed_eighths}

-- ---- values of one denominator are in the order of their numerators
scaled : (p q d : ℕ) → 0 < d → leb p q ≡ leb (p * d) (q * d)
scaled p q d some =
    elim (dec_lt q p) [
      | yes l ↦ rw (lt-leb p q l, lt-leb (p * d) (q * d) (mul-lt-mul_of_pos_right l some))
      | no g ↦
          let h : p ≤ q = omega arith in
          rw (le-leb p q h, le-leb (p * d) (q * d) (mul-le-mul_right d h))
    ]

less-or-equal : (p q : ℕ) → (ltb p q || (eqb p q && true)) ≡ leb p q
less-or-equal p q =
    elim (dec_lt p q) [
      | yes l ↦ rw (lt-ltb p q l, le-leb p q (omega arith))
      | no g ↦
          elim (dec_lt q p) [
            | yes m ↦ rw (le-ltb p q (omega arith), ne_eqb p q (λ e. omega arith), lt-leb p q m)
            | no f ↦ rw (le-ltb p q (omega arith), eq-eqb p q (omega arith), le-leb p q (omega arith))
          ]
    ]

pub in_order : (x y : Float) (a b d : ℕ) → 0 < d → HasValue x false a d → HasValue y false b d → le x y ≡ leb a b
unfolding le lt eq
in_order nan y a b d some v w = absurd v
in_order (inf s) y a b d some v w = absurd v
in_order (fin s m e) nan a b d some v w = absurd w
in_order (fin s m e) (inf t) a b d some v w = absurd w
in_order (fin s m e) (fin t n f) a b d some v w =
    rw (v.0, w.0)
    (less-or-equal (m * up e * down f) (n * up f * down e)
    ∙ scaled (m * up e * down f) (n * up f * down e) d some
    ∙ rw (left, right) (sym (scaled a b (down e * down f) (mul-pos (down_pos e) (down_pos f)))))
  where
    left : m * up e * down f * d ≡ a * (down e * down f)
    left = mul_right_comm (m * up e) (down f) d ∙ rw v.1 (mul_assoc a (down e) (down f))

    right : n * up f * down e * d ≡ b * (down e * down f)
    right = mul_right_comm (n * up f) (down e) d ∙ rw w.1 (mul_assoc b (down f) (down e) ∙ rw (mul_comm (down f) (down e)))

-- ---- counting
parts-turn : (bit n : ℕ) (x : Float) → 0 < bit →
    parts_after bit n x ≡ parts_after (bit - 1) (if le (over512 (n + 2 ^ (bit - 1))) x then n + 2 ^ (bit - 1) else n) x
unfolding parts_after
parts-turn zero n x h = absurd (omega arith)
parts-turn (suc bit) n x h = let e : suc bit - 1 ≡ bit = omega arith in rw e

module _ (bit n : ℕ) (x : Float) (some : 0 < bit) where
  pub parts_more : le (over512 (n + 2 ^ (bit - 1))) x ≡ true → parts_after bit n x ≡ parts_after (bit - 1) (n + 2 ^ (bit - 1)) x
  parts_more t = parts-turn bit n x some ∙ rw t

  pub parts_same : le (over512 (n + 2 ^ (bit - 1))) x ≡ false → parts_after bit n x ≡ parts_after (bit - 1) n x
  parts_same f = parts-turn bit n x some ∙ rw f

pub parts-done : {bit : ℕ} (n : ℕ) (x : Float) → bit ≡ 0 → parts_after bit n x ≡ n
unfolding parts_after
parts-done n x e = rw e

pub halves : (bit : ℕ) → 0 < bit → 2 ^ bit ≡ 2 ^ (bit - 1) + 2 ^ (bit - 1)
halves zero h = absurd (omega arith)
halves (suc bit) h = let e : suc bit - 1 ≡ bit = omega arith in rw e (two-pow-succ bit)

counted : (bits m n : ℕ) (x : Float) → HasValue x false n 512 → m ≤ n → n < m + 2 ^ bits → m + 2 ^ bits ≤ 2 ^ 53 → parts_after bits m x ≡ n
unfolding parts_after
counted zero m n x v low high room = omega arith
counted (suc bits) m n x v low high room =
    let half = two-pow-succ bits in
    let order : le (over512 (m + 2 ^ bits)) x ≡ leb (m + 2 ^ bits) n =
    in_order (over512 (m + 2 ^ bits)) x (m + 2 ^ bits) n 512 (omega arith) (over-512-exact (m + 2 ^ bits) (omega (arith, pow_pos bits))) v in
    elim (dec_lt n (m + 2 ^ bits)) [
      | yes l ↦ rw (order, lt-leb (m + 2 ^ bits) n l) (counted bits m n x v low l (omega arith))
      | no g ↦ rw (order, le-leb (m + 2 ^ bits) n (omega arith)) (counted bits (m + 2 ^ bits) n x v (omega arith) (omega arith) (omega arith))
    ]

-- an f64 that is n 512ths exactly has n parts
pub parts-exact : (x : Float) (n : ℕ) → HasValue x false n 512 → n < 2 ^ 32 → parts_of x ≡ n
unfolding parts_of
parts-exact x n v h = counted 32 0 n x v (omega arith) (omega arith) (omega arith)

-- ---- eighths
eighths-512ths : (x : Float) (s : Bool) (n : ℕ) → HasValue x s n 8 → HasValue x s (n * 64) 512
eighths-512ths nan s n v = v
eighths-512ths (inf t) s n v = v
eighths-512ths (fin t m e) s n v = (
  v.0,
  sym (mul_assoc (m * up e) 8 64) ∙ ap (λ (k : ℕ). k * 64) v.1 ∙ mul_right_comm n (down e) 64,
)

opposite : (x : Float) (s : Bool) (n d : ℕ) → HasValue x s n d → HasValue (neg x) (not s) n d
unfolding neg
opposite nan s n d v = v
opposite (inf t) s n d v = v
opposite (fin t m e) s n d v = (ap not v.0, v.1)

-- an f64 that is n eighths exactly has n
eighth-parts : (x : Float) (n : ℕ) → HasValue x false n 8 → n < 2 ^ 26 → parts_of x / 64 ≡ n
eighth-parts x n v h = rw (parts-exact x (n * 64) (eighths-512ths x false n v) (omega arith)) (omega arith)

not-below-zero : (x : Float) (n : ℕ) → HasValue x false n 8 → lt x (fin false 0 (pos 0)) ≡ false
unfolding lt
not-below-zero nan n v = absurd v
not-below-zero (inf t) n v = absurd v
not-below-zero (fin t m e) n v = rw v.0 (le-ltb (m * up e * 1) (0 * 1 * down e) (rw (zero-mul 1, zero-mul (down e)) (omega arith)))

below-zero : (x : Float) (n : ℕ) → HasValue x true (suc n) 8 → lt x (fin false 0 (pos 0)) ≡ true
unfolding lt
below-zero nan n v = absurd v
below-zero (inf t) n v = absurd v
below-zero (fin t m e) n v =
    let some : 0 < suc n * down e = mul-pos (omega arith) (down_pos e) in
    rw v.0 (lt-ltb 0 (m * up e * 1 + 0 * 1 * down e) (omega (arith, v.1, some)))

-- an f64 that is so many eighths exactly is put as that number
pub eighths-exact : (x : Float) (t : ℤ) → HasValue x (not (non_neg t)) (nat_abs t) 8 → nat_abs t < 2 ^ 26 → eighths_text x ≡ signed_eighths t
unfolding eighths_text signed_eighths
eighths-exact x (pos n) v h = rw (not-below-zero x n v, eighth-parts x n v h)
eighths-exact x (negsuc n) v h = rw (below-zero x n v, eighth-parts (neg x) (suc n) (opposite x true (suc n) 8 v) h)

-- a sign where the f64 is below 0, and then its eighths, however they were made
pub sign-put : (x y : Float) → y ≡ (if lt x (fin false 0 (pos 0)) then neg x else x) →
    sign_of (lt x (fin false 0 (pos 0))) ++ three_decimals (parts_of y / 64) ≡ eighths_text x
unfolding eighths_text
sign-put x y e = by-test (lt x (fin false 0 (pos 0))) (λ t. let n = rw t at e in rw (t, n)) (λ f. let n = rw f at e in rw (f, n))
