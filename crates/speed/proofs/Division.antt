-- Long division in base two: each turn gives one bit of the quotient, from the top.
use Prim.Native.Nat.{ℕ, ◌+◌, ◌-◌, ◌*◌, ◌/◌, ◌%◌, ◌^◌, ◌≤◌, ◌<◌}
use mathlib.Core.Path.{◌≡◌, sym, ◌∙◌, ap}
use native.Mathlib.Nat.{add-mul, mul_comm, mul_assoc, pow-suc, mul-le-mul_right, le-div_iff_mul-le}
use native.Mathlib.Omega.{arith}
use lib.Pow.{pow_pos}

-- n divided by d with k bits to come: q is the quotient so far, and r is left of n
pub record Dividing (n d q r k : ℕ) : Type 0 where
  pub few : n < 2 ^ 24
  pub some : 0 < d
  pub bits : k ≤ 24
  pub whole : q * d + r ≡ n
  pub small : r < d * 2 ^ k

module _ (n d q r k : ℕ) (v : Dividing n d q r k) (more : 0 < k) where
  -- the divisor moved up to the bit that comes next
  abbrev up : ℕ
  up = d * 2 ^ (k - 1)

  twice : d * 2 ^ k ≡ up * 2
  twice = ap (λ j. d * 2 ^ j) (omega arith) ∙ ap (λ m. d * m) (pow-suc 2 (k - 1)) ∙ sym (mul_assoc d (2 ^ (k - 1)) 2)

  -- it goes in: the bit is 1
  module _ (h : d ≤ r / 2 ^ (k - 1)) where
    goes_in : up ≤ r
    goes_in = (le-div_iff_mul-le (pow_pos (k - 1))).0 h

    -- so neither it nor the 1 that is moved up with it loses a bit
    divisor-fits : up % 2 ^ 32 ≡ up
    divisor-fits = omega (arith, goes_in, v.whole, v.few)

    one-fits : 1 * 2 ^ (k - 1) % 2 ^ 32 ≡ 2 ^ (k - 1)
    one-fits = let l : 1 * 2 ^ (k - 1) ≤ up = mul-le-mul_right (2 ^ (k - 1)) v.some in omega (arith, l, goes_in, v.whole, v.few)

    pub bit-set : Dividing n d (q + 1 * 2 ^ (k - 1) % 2 ^ 32) (r - up % 2 ^ 32) (k - 1)
    bit-set =
        let e : (q + 2 ^ (k - 1)) * d ≡ q * d + up = add-mul q (2 ^ (k - 1)) d ∙ ap (λ m. q * d + m) (mul_comm (2 ^ (k - 1)) d) in
        rw (divisor-fits, one-fits)
        record {
          few = v.few;
          some = v.some;
          bits = omega (arith, v.bits);
          whole = omega (arith, e, goes_in, v.whole);
          small = omega (arith, twice, v.small);
        }
