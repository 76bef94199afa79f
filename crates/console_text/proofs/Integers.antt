-- Signed numbers: what the machine reads back from 32 bits, and the way there and back between a number and its bits.
use Prim.Native.Nat.{ℕ, suc, ◌-◌, ◌%◌, ◌<◌}
use mathlib.Core.Path.{◌≡◌, refl, ap, ◌∙◌}
use mathlib.Core.List.{List, ◌∷◌, ◌++◌}
use native.Mathlib.Decide.{dec_lt}
use native.Mathlib.Omega.{arith}
use lib.IntN.{ℤ, pos, negsuc, nat_abs}
use lib.Dec.{ltb}
use lib.Signed.{mag, lt_z}
use mir.Syntax.{w16, w32}
use mir.Val.{SFits, to_z, of_z}
use mir.ValLaws.{to_z-of_z}
use borrow.Author.Tests.{lt-ltb, le-ltb}
use Rattle.rules.proofs.Tests.{by-test}
use Rattle.console_text.specs.Decimal.{decimal_of}
use Rattle.console_text.specs.Fraction.{three_decimals, signed_eighths}
use Rattle.console_text.specs.Signed.{bits_of, integer_of, short_of, sign_of, signed_decimal}

-- ---- from bits
pub integer-bits : (n : ℕ) → to_z w32 n ≡ integer_of n
unfolding integer_of
integer-bits n =
    by-test (ltb n 2_147_483_648) (λ t. rw t) (λ f. rw f (ap negsuc (omega arith)))

pub short-bits : (n : ℕ) → to_z w16 (n % 65_536) ≡ short_of n
unfolding short_of
short-bits n =
    by-test (ltb (n % 65_536) 32_768) (λ t. rw t) (λ f. rw f (ap negsuc (omega arith)))

-- a number of 32 bits is the one that its bits are
pub bits_back : (z : ℤ) → mag z < 2_147_483_648 → integer_of (bits_of z) ≡ z
unfolding integer_of
bits_back (pos n) h = rw (lt-ltb n 2_147_483_648 h)
bits_back (negsuc n) h =
    let back : 4_294_967_295 - (4_294_967_295 - n) ≡ n = omega arith in
    rw (le-ltb (4_294_967_295 - n) 2_147_483_648 (omega arith), back)

-- and so is a number of 16 bits
pub short_back : (z : ℤ) → mag z < 32_768 → short_of (bits_of z) ≡ z
unfolding short_of
short_back (pos n) h =
    let low : n % 65_536 ≡ n = omega arith in
    rw (low, lt-ltb n 32_768 h)
short_back (negsuc n) h =
    let low : (4_294_967_295 - n) % 65_536 ≡ 65_535 - n = omega arith in
    let back : 65_535 - (65_535 - n) ≡ n = omega arith in
    rw (low, le-ltb (65_535 - n) 32_768 (omega arith), back)

-- ---- as text: a sign where the number is below 0, and then how far it is from 0
signed_by : (text : ℕ → List ℕ) (f : ℤ → List ℕ) → ((n : ℕ) → text n ≡ f (pos n)) → ((n : ℕ) → 45 ∷ text (suc n) ≡ f (negsuc n)) → (z : ℤ) →
    sign_of (lt_z z (pos 0)) ++ text (nat_abs z) ≡ f z
signed_by text f plain below (pos n) = rw (le-ltb n 0 (omega arith)) (plain n)
signed_by text f plain below (negsuc n) = below n

module _ (z : ℤ) (f : SFits w32 z) where
  pub sign-put : sign_of (lt_z (to_z w32 (of_z w32 z)) (pos 0)) ++ decimal_of (nat_abs (to_z w32 (of_z w32 z))) ≡ signed_decimal z
  sign-put = rw (to_z-of_z w32 z f) (signed_by decimal_of signed_decimal (λ n. refl) (λ n. refl) z)

  pub sign-put-eighths : sign_of (lt_z (to_z w32 (of_z w32 z)) (pos 0)) ++ three_decimals (nat_abs (to_z w32 (of_z w32 z))) ≡ signed_eighths z
  unfolding signed_eighths
  sign-put-eighths = rw (to_z-of_z w32 z f) (signed_by three_decimals signed_eighths (λ n. refl) (λ n. refl) z)

-- ---- what the machine reads back of a number that was made of bits
integer-fits : (n : ℕ) → SFits w32 (integer_of n)
unfolding integer_of
integer-fits n =
    elim (dec_lt n 2_147_483_648) [
      | yes l ↦ rw (lt-ltb n 2_147_483_648 l) (record { sfits = l })
      | no g ↦ rw (le-ltb n 2_147_483_648 (omega arith)) (record { sfits = omega arith })
    ]

pub integer-read : {z : ℤ} (n : ℕ) → z ≡ integer_of n → to_z w32 (of_z w32 z) ≡ integer_of n
integer-read n e = rw e (to_z-of_z w32 (integer_of n) (integer-fits n))

short-fits : (n : ℕ) → SFits w16 (short_of n)
unfolding short_of
short-fits n =
    elim (dec_lt (n % 65_536) 32_768) [
      | yes l ↦ rw (lt-ltb (n % 65_536) 32_768 l) (record { sfits = l })
      | no g ↦ rw (le-ltb (n % 65_536) 32_768 (omega arith)) (record { sfits = omega arith })
    ]

pub short-read : {z : ℤ} (n : ℕ) → z ≡ short_of n → to_z w16 (of_z w16 z) ≡ short_of n
short-read n e = rw e (to_z-of_z w16 (short_of n) (short-fits n))

-- 16 bits fit 32
pub widened : (z : ℤ) → SFits w16 z → SFits w32 (to_z w16 (of_z w16 z))
widened z f = rw (to_z-of_z w16 z f) (record { sfits = omega (arith, f.sfits) })

pub widened-read : (z : ℤ) → SFits w16 z → to_z w32 (of_z w32 (to_z w16 (of_z w16 z))) ≡ z
widened-read z f = to_z-of_z w32 (to_z w16 (of_z w16 z)) (widened z f) ∙ to_z-of_z w16 z f
