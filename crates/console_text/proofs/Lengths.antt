-- How long a number is as text.
use Prim.Native.Nat.{ℕ, zero, suc, ◌-◌, ◌*◌, ◌/◌, ◌%◌, ◌≤◌}
use mathlib.Core.Bool.{false, ◌&&◌}
use native.Mathlib.Omega.{arith}
use lib.ListN.{length, length-append, length-replicate}
use lib.Dec.{eqb}
use lib.IntN.{ℤ, pos, negsuc}
use lib.Ieee.{Float, fin, neg, lt}
use Rattle.console_text.specs.Decimal.{digits_within, digits_of, padded}
use Rattle.console_text.specs.Fraction.{parts_of, nine_decimals, three_decimals, eighths_text, signed_eighths}
use Rattle.console_text.specs.Signed.{signed_decimal}
use Rattle.rules.proofs.Tests.{by-test}
use Rattle.console_text.proofs.RoundTrip.{exactly-nine}

digits-within : (room least n : ℕ) → length (digits_within room least n) ≤ room
unfolding digits_within
digits-within zero least n = omega arith
digits-within (suc room) least n =
    by-test (eqb n 0 && eqb least 0) (λ t. rw t (omega arith))
    (λ f. rw (f, length-append) (omega (arith, digits-within room (least - 1) (n / 10))))

-- a number has at most ten digits
pub digits-length : (least n : ℕ) → length (digits_of least n) ≤ 10
unfolding digits_of
digits-length least n = digits-within 10 least n

-- one in its places, ten at most, too
pub padded-length : (places n : ℕ) → places ≤ 10 → length (padded places n) ≤ 10
unfolding padded
padded-length places n h = rw (length-append, length-replicate) (omega (arith, digits-length 1 n))

-- 512ths with nine decimals are at most twenty bytes
pub nine-length : (n : ℕ) → length (nine_decimals n) ≤ 20
unfolding nine_decimals
nine-length n =
    rw length-append (omega (arith, digits-length 1 (n / 512), exactly-nine (n % 512 * 1953125) (omega arith)))

-- a signed number is at most eleven bytes, and eighths with three decimals at most twenty-two
pub signed-length : (z : ℤ) → length (signed_decimal z) ≤ 11
signed-length (pos n) = omega (arith, digits-length 1 n)
signed-length (negsuc n) = omega (arith, digits-length 1 (suc n))

pub three-length : (n : ℕ) → length (three_decimals n) ≤ 21
unfolding three_decimals
three-length n = rw length-append (omega (arith, digits-length 1 (n / 8), digits-length 3 (n % 8 * 125)))

pub eighths-length : (x : Float) → length (eighths_text x) ≤ 22
unfolding eighths_text
eighths-length x =
    by-test (lt x (fin false 0 (pos 0))) (λ t. rw t (omega (arith, three-length (parts_of (neg x) / 64))))
    (λ f. rw f (omega (arith, three-length (parts_of x / 64))))

pub signed-eighths-length : (z : ℤ) → length (signed_eighths z) ≤ 22
unfolding signed_eighths
signed-eighths-length (pos n) = omega (arith, three-length n)
signed-eighths-length (negsuc n) = omega (arith, three-length (suc n))
