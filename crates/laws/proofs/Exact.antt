-- A number divided by a power of two as the machine divides is exact, and so is every number of a reading.
use Prim.Native.Nat.{ℕ, ◌-◌, ◌+◌, ◌*◌, ◌^◌, ◌<◌, ◌≤◌}
use mathlib.Core.Path.{◌≡◌, refl, sym, ◌∙◌, ap}
use mathlib.Core.Bool.{Bool, true, false}
use mathlib.Core.List.{List, map, map-map}
use native.Mathlib.Nat.{mul_comm, mul_assoc, mul-pos, one-mul, lt_of_lt_of_le, le_of_lt}
use native.Mathlib.Omega.{arith}
use lib.Dec.{eqb, ltb, lit<, lit≤}
use lib.IntN.{pos}
use lib.ListN.{length, get_or, replicate, length-map}
use borrow.Author.Tests.{ltb-true}
use lib.Pow.{pow-add, pow_pos, pow_mono, shl_lt}
use lib.Ieee.{Float, nan, inf, fin, binary64, up, down, unlike, round, of_int, div}
use lib.Ieee.Back.{round_whole}
use lib.Ieee.Digits.{back}
use lib.Ieee.Exact.{HasValue, round_exact}
use lib.Ieee.Fits.{down_pos}
use lib.Ieee.Scale.{round_same}
use Rattle.laws.proofs.Types.{State, Reading, ReadingAnswer, Ok, Err, StateNotValid}
use Rattle.rules.specs.State.{blank}
use Rattle.rules.specs.Duty.{conditions_of, output_duty}
use Rattle.rules.specs.Valid.{valid_of}
use Rattle.rules.specs.Reading.{over512, Exactly, share_of, clock_read, shares_read, reading_of, reading_by, ExactReading}
use Rattle.rules.proofs.Tests.{by-test, choice, all-below}
use Rattle.laws.proofs.Each.{map_at}
use Rattle.laws.proofs.Duty.{output-duty-lt}

-- n / 2 ^ k is a binary64 value, for every n below 2 ^ 53 and either sign
pub fraction-exact : (sign : Bool) (n k : ℕ) → n < 2 ^ 53 → k ≤ 1074 → HasValue (round binary64 sign n (2 ^ k)) sign n (2 ^ k)
fraction-exact sign n k h g =
    let e : 2 ^ (1074 - k) * 2 ^ k ≡ 2 ^ 1074 = sym (pow-add 2 (1074 - k) k) ∙ ap (λ x. 2 ^ x) (back 1074 k g) in
    let b : 53 + (1074 - k) ≤ 2098 = omega arith in
    round_exact binary64 sign n (2 ^ k) n (1074 - k) (pow_pos k) h
    (lt_of_lt_of_le (shl_lt 53 (1074 - k) h) (pow_mono b))
    (ap (λ x. n * x) (sym e) ∙ sym (mul_assoc n (2 ^ (1074 - k)) (2 ^ k)))

pub over-512-exact : (n : ℕ) → n < 2 ^ 53 → Exactly n (over512 n)
unfolding over512
over-512-exact n h = fraction-exact false n 9 h (omega arith)

-- a whole number over 2 ^ k, as the machine divides, is the fraction rounded
pub divided-is-rounded : (sign : Bool) (x : Float) (n k : ℕ) → HasValue x sign n 1 →
    div binary64 x (fin false 1 (pos k)) ≡ round binary64 sign n (2 ^ k)
unfolding div
divided-is-rounded sign nan n k v = absurd v
divided-is-rounded sign (inf t) n k v = absurd v
divided-is-rounded sign (fin t m e) n k v =
    ap (λ s. round binary64 s (m * up e * 1) (1 * 2 ^ k * down e)) (unlike-plus t ∙ v.0)
    ∙ round_same binary64 sign (m * up e * 1) (1 * 2 ^ k * down e) n (2 ^ k) (mul-pos (mul-pos one (pow_pos k)) (down_pos e)) (pow_pos k)
    (ap (λ z. z * 2 ^ k) v.1 ∙ regroup (down e) (2 ^ k))
  where
    one : 0 < 1
    one = omega arith

    unlike-plus : (t : Bool) → unlike t false ≡ t
    unlike-plus false = refl
    unlike-plus true = refl

    regroup : (d p : ℕ) → n * d * p ≡ n * (1 * p * d)
    regroup d p = mul_assoc n d p ∙ ap (λ x. n * x) (mul_comm d p ∙ ap (λ x. x * d) (sym (one-mul p)))

-- a number as an f64, divided by 512.0
pub divided-by-512 : (n : ℕ) → n < 2 ^ 53 → div binary64 (of_int binary64 (pos n)) (fin false 1 (pos 9)) ≡ over512 n
unfolding over512 of_int
divided-by-512 n h = divided-is-rounded false (of_int binary64 (pos n)) n 9 (round_whole binary64 false n (le_of_lt h))

-- ---- a reading

share-small : (duty : ℕ) → duty < 512 → share_of duty < 2 ^ 53
share-small duty h = choice (λ n. n < 2 ^ 53) (eqb duty 511) 512 duty (λ e. lit< tt) (λ e. lt_of_lt_of_le h (lit≤ tt))

shares-small : (s : State) (i : ℕ) → length s.channels ≡ 6 → i < 6 → get_or (shares_read s) i 0 < 2 ^ 53
unfolding shares_read
shares-small s i six h =
    by-test (valid_of s)
    (λ v. rw (v, map_at (λ ch. share_of (output_duty (conditions_of s) ch)) s.channels i blank 0 (omega (arith, six)))
    (share-small _ (output-duty-lt s i v)))
    (λ v. rw v (ltb-true _ (2 ^ 53) (all-below 6 (λ k. ltb (get_or (replicate 6 0) k 0) (2 ^ 53)) refl i h)))

shares-six : (s : State) → length s.channels ≡ 6 → length (shares_read s) ≡ 6
unfolding shares_read
shares-six s six =
    choice (λ (l : List ℕ). length l ≡ 6) (valid_of s) _ (replicate 6 0) (λ v. length-map s.channels _ ∙ six) (λ v. refl)

reading-exact : (s : State) → s.timer.clock < 2 ^ 32 → length s.channels ≡ 6 → ExactReading s (reading_of s).reading
unfolding reading_of clock_read
reading-exact s h six =
    record {
      seconds = over-512-exact _ (choice (λ n. n < 2 ^ 53) (valid_of s) s.timer.clock 0 (λ v. lt_of_lt_of_le h (lit≤ tt)) (λ v. lit< tt));
      shares = λ i l.
          rw (map_at over512 (shares_read s) i 0 (over512 0) (omega (arith, shares-six s six)))
          (over-512-exact _ (shares-small s i six l));
    }

-- ---- what the call gives, from what its test told

pub reading-refused : (s : State) → valid_of s ≡ false → reading_by s (Err StateNotValid) ≡ reading_of s
unfolding reading_of clock_read shares_read
reading-refused s bad = rw bad refl

pub reading-given : (s : State) (r : Reading) → valid_of s ≡ true → r.seconds ≡ over512 s.timer.clock →
    r.shares ≡ map (λ ch. over512 (share_of (output_duty (conditions_of s) ch))) s.channels → reading_by s (Ok r) ≡ reading_of s
unfolding reading_of clock_read shares_read
reading-given s r good seconds shares = rw (good, map-map, sym seconds, sym shares) refl

-- and what is the answer of the rules is exact
pub told-exact : (s : State) (r : ReadingAnswer) → s.timer.clock < 2 ^ 32 → length s.channels ≡ 6 → r ≡ reading_of s → ExactReading s r.reading
told-exact s r clock-fits six e = rw e (reading-exact s clock-fits six)
