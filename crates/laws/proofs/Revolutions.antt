-- The speed calculation: what its test tells, and how small a speed can be.
use Prim.Native.Nat.{ℕ, ◌*◌, ◌<◌, ◌≤◌}
use mathlib.Core.Path.{◌≡◌, refl}
use mathlib.Core.Bool.{false}
use native.Mathlib.Omega.{arith}
use native.Mathlib.Nat.{le_trans, mul-le-mul_right, mul-le-mul_left, mul-pos, le-div_iff_mul-le}
use lib.Dec.{leb}
use borrow.Author.Tests.{leb-true}
use Rattle.laws.proofs.Types.{Ok, Err, SpeedOutOfRange, Rpm, Stopped, TooFast}
use Rattle.rules.specs.Speed.{speed_range, revolutions, speed_refused, speed_of}
use Rattle.std.proofs.lemmas.Grind.{common_steps}
use Rattle.rules.proofs.Tests.{all-below}

-- what the tests leave where there is a speed
pub record HasSpeed (range pulses count : ℕ) : Type 0 where
  pub range-le : range ≤ 7
  pub some-pulses : 1 ≤ pulses
  pub pulses-le : pulses ≤ 4
  pub some-count : 1 ≤ count
  pub count-le : count ≤ 2046

pub has-speed : (range pulses count : ℕ) → speed_refused range pulses count ≡ false → (count ≡ 2047 → ⊥) → (count ≡ 0 → ⊥) →
    HasSpeed range pulses count
unfolding speed_refused
has-speed range pulses count e not_stopped not-too-fast =
    record {
      range-le = grind (arith, common_steps);
      some-pulses = grind (arith, common_steps);
      pulses-le = grind (arith, common_steps);
      some-count = omega arith;
      count-le = grind (arith, common_steps);
    }

speed-range-pos : (code : ℕ) → code ≤ 7 → 1 ≤ speed_range code
unfolding speed_range
speed-range-pos code h = leb-true 1 _ (all-below 8 (λ c. leb 1 (speed_range c)) refl code (omega (arith, h)))

module _ (range pulses count : ℕ) where
  divisor-le : HasSpeed range pulses count → pulses * count ≤ 4 * 2046
  divisor-le a = le_trans (mul-le-mul_right count a.pulses-le) (mul-le-mul_left 4 a.count-le)

  divisor-pos : HasSpeed range pulses count → 0 < pulses * count
  divisor-pos a = mul-pos a.some-pulses a.some-count

  -- so number 0 with speed 0 is one of the two words
  pub speed-at-least-60 : HasSpeed range pulses count → 60 ≤ revolutions range pulses count
  speed-at-least-60 a = (le-div_iff_mul-le (divisor-pos a)).1 (omega (arith, divisor-le a, speed-range-pos range a.range-le))

-- each case is met, and what is refused comes before either word
pub each-case-met :
    (speed_of 2 2 1000 ≡ Ok (Rpm 983)) × (speed_of 2 2 2047 ≡ Ok Stopped) × (speed_of 2 2 0 ≡ Ok TooFast)
    × (speed_of 8 2 2047 ≡ Err SpeedOutOfRange) × (speed_of 2 5 0 ≡ Err SpeedOutOfRange) × (speed_of 2 2 2048 ≡ Err SpeedOutOfRange)
unfolding speed_of speed_refused speed_range
each-case-met = (refl, refl, refl, refl, refl, refl)
