-- The case of a speed decides number and value, for every number; and no range is above 32.
use Prim.Native.Nat.{ℕ, ◌≤◌}
use mathlib.Core.Path.{◌≡◌, refl, sym}
use mathlib.Core.Bool.{true, false}
use mathlib.Core.List.{[], ◌∷◌}
use native.Mathlib.Omega.{arith}
use lib.Dec.{leb}
use borrow.Author.Tests.{leb-true, eq-eqb, ne_eqb}
use Rattle.std.specs.Prelude.{Result, Ok, Err}
use Rattle.rules.specs.declared.refusal.Refusal.{Refusal}
use Rattle.rules.specs.declared.refusal.Refusal.TheVariants.{SpeedOutOfRange}
use Rattle.rules.specs.declared.Speed.{Speed}
use Rattle.rules.specs.declared.Speed.TheVariants.{Rpm, Stopped, TooFast}
use Rattle.rules.specs.Speed.{speed_range, revolutions, speed_refused, speed_of, SpeedTold}
use Rattle.rules.proofs.Tests.{every-at}

pub speed-range-le : (code : ℕ) → speed_range code ≤ 32
unfolding speed_range
speed-range-le code = leb-true _ 32 (every-at (λ r. leb r 32) (1 ∷ 2 ∷ 4 ∷ 8 ∷ 16 ∷ 32 ∷ 32 ∷ 32 ∷ []) code 0 refl refl)

module _ (range pulses count : ℕ) where
  pub speed-refused : speed_refused range pulses count ≡ true → Err SpeedOutOfRange ≡ speed_of range pulses count
  unfolding speed_of
  speed-refused e = rw e refl

  pub speed-stopped : speed_refused range pulses count ≡ false → count ≡ 2047 → Ok Stopped ≡ speed_of range pulses count
  unfolding speed_of
  speed-stopped e is = rw (e, eq-eqb count 2047 is) refl

  pub speed-too-fast : speed_refused range pulses count ≡ false → count ≡ 0 → Ok TooFast ≡ speed_of range pulses count
  unfolding speed_of
  speed-too-fast e is = rw (e, ne_eqb count 2047 (omega (arith, is)), eq-eqb count 0 is) refl

  pub speed-given : speed_refused range pulses count ≡ false → 1 ≤ count → count ≤ 2046 →
      Ok (Rpm (revolutions range pulses count)) ≡ speed_of range pulses count
  unfolding speed_of
  speed-given e some most = rw (e, ne_eqb count 2047 (omega (arith, most)), ne_eqb count 0 (omega (arith, some))) refl

  pub speed-promised : {r : Result Speed Refusal} → r ≡ speed_of range pulses count → (r ≡ speed_of range pulses count) × SpeedTold range pulses count r
  speed-promised is = (
    is,
    rw is
        (record {
          refused = λ e. rw (sym (speed-refused e)) (refl, refl);
          stopped = λ e full. rw (sym (speed-stopped e full)) (refl, refl);
          too_fast = λ e none. rw (sym (speed-too-fast e none)) (refl, refl);
          given = λ e some most. rw (sym (speed-given e some most)) (refl, refl);
        }),
  )
