-- One byte of a number, and of a record: part of one stays part of one, and a whole number has 32 bits.
use Prim.Native.Nat.{ℕ, ◌+◌, ◌*◌, ◌%◌, ◌^◌, ◌<◌, ◌≤◌}
use mathlib.Core.Path.{◌≡◌, refl, sym, subst}
use mathlib.Core.Bool.{Bool, true, false, ◌&&◌, and-false, false≢true}
use native.Mathlib.Omega.{arith}
use native.Mathlib.Nat.{add_comm, lt_of_lt_of_le, mod-lt}
use lib.Dec.{ltb, eqb, lit<}
use lib.Arith.{digits_lt}
use lib.Pow.{pow-add, pow_mono}
use borrow.Author.Tests.{lt-ltb, le-ltb, ne_eqb, ltb-true, ltb-false, eqb-true, eqb-false}
use Rattle.rules.proofs.Tests.{by-test, choice}
use Rattle.strings.specs.Types.{Group, Stage, Kind, WriteAddress, WriteByte, ReadAddress, TickCount, ResultChannel, ResultCount, PinLevel, WordAddress, WordValue, PulseChannel, Partial, Step}
use Rattle.strings.specs.Group as group
use Rattle.strings.specs.Step.{More, Whole, Refused}
use Rattle.strings.specs.Number.{group_of}
use Rattle.strings.specs.Partial.{HalfRead}
use Rattle.strings.specs.Record.{begun, number_of, group_taken, step_of}
use Rattle.strings.proofs.Stages.{by_kind}

-- ---- a number

-- the last group of a number, and one that others follow
module _ (groups value : ℕ) where
  pub last-group : (n : ℕ) → n < 128 → (groups ≡ 4 → n < 16) → (0 < groups → 0 < n) → group_of groups value n ≡ group.Last (value + n * 2 ^ (7 * groups))
  unfolding group_of
  last-group n low fifth first =
      let m : n % 128 ≡ n = omega arith in
      rw (not-12 (eqb groups 4) refl, not-11 (ltb 0 groups) refl, lt-ltb n 128 low, m) refl
    where
      not-12 : (t : Bool) → eqb groups 4 ≡ t → (eqb groups 4 && ltb 15 n) ≡ false
      not-12 true e = rw (e, le-ltb 15 n (omega (arith, fifth (eqb-true groups 4 e)))) refl
      not-12 false e = rw e refl

      not-11 : (t : Bool) → ltb 0 groups ≡ t → (ltb 0 groups && eqb n 0) ≡ false
      not-11 true e = rw (e, ne_eqb n 0 (λ z. omega (arith, first (ltb-true 0 groups e)))) refl
      not-11 false e = rw e refl

  pub more-group : (b : ℕ) → 128 ≤ b → (groups ≡ 4 → ⊥) → group_of groups value b ≡ group.More (value + b % 128 * 2 ^ (7 * groups))
  unfolding group_of
  more-group b high few =
      rw (ne_eqb groups 4 few, ne_eqb b 0 (λ z. omega arith), and-false, le-ltb b 128 high) refl

-- j bits above k bits
pub grow : (j k value byte : ℕ) → value < 2 ^ k → byte < 2 ^ j → value + byte * 2 ^ k < 2 ^ (j + k)
grow j k value byte p q =
    subst (λ (x : ℕ). x < 2 ^ (j + k)) (add_comm (byte * 2 ^ k) value)
    (subst (λ (x : ℕ). byte * 2 ^ k + value < x) (sym (pow-add 2 j k)) (digits_lt q p))

-- what a byte leaves of a number: groups with room for another, or a number of 32 bits
abbrev pub GroupKept : ℕ → Group → Type 0
GroupKept groups (group.More value) = (groups < 4) × (value < 2 ^ (7 * (groups + 1)))
GroupKept groups (group.Last n) = n < 2 ^ 32
GroupKept groups (group.Refused refusal) = Unit {0}

not-fifth : (t u : Bool) → (t && u) ≡ false → u ≡ true → t ≡ false
not-fifth true true e h = e
not-fifth true false e h = absurd (false≢true h)
not-fifth false u e h = refl

pub group-kept : (groups value byte : ℕ) → groups ≤ 4 → value < 2 ^ (7 * groups) → GroupKept groups (group_of groups value byte)
unfolding group_of
group-kept groups value byte p q =
    choice (GroupKept groups) fifth-above _ _ (λ _. tt) (λ fifth. choice (GroupKept groups) (ltb 0 groups && eqb byte 0) _ _ (λ _. tt)
    (λ _. choice (GroupKept groups) (ltb byte 128) _ _
    (λ low. by-test (eqb groups 4) (λ is. last-fifth (eqb-true groups 4 is) (ltb-false 15 byte (rw is at fifth))) (λ not. last (eqb-false groups 4 not)))
    (λ high. more (eqb-false groups 4 (not-fifth (eqb groups 4) (ltb 15 byte) fifth (lt-ltb 15 byte (omega (arith, ltb-false byte 128 high))))))))
  where
    fifth-above : Bool
    fifth-above = eqb groups 4 && ltb 15 byte

    seven-bits : byte % 128 < 2 ^ 7
    seven-bits = mod-lt byte {m = 128} (lit< tt)

    more : (groups ≡ 4 → ⊥) → (groups < 4) × (value + byte % 128 * 2 ^ (7 * groups) < 2 ^ (7 * (groups + 1)))
    more not =
        let next : 7 + 7 * groups ≡ 7 * (groups + 1) = omega arith in
        (omega (arith, not), subst (λ (x : ℕ). value + byte % 128 * 2 ^ (7 * groups) < 2 ^ x) next (grow 7 (7 * groups) value (byte % 128) q seven-bits))

    last : (groups ≡ 4 → ⊥) → value + byte % 128 * 2 ^ (7 * groups) < 2 ^ 32
    last not = lt_of_lt_of_le (grow 7 (7 * groups) value (byte % 128) q seven-bits) (pow_mono {j = 32} (omega (arith, not)))

    last-fifth : groups ≡ 4 → byte ≤ 15 → value + byte % 128 * 2 ^ (7 * groups) < 2 ^ 32
    last-fifth is low =
        let four-bits : byte % 128 < 2 ^ 4 = omega arith in
        lt_of_lt_of_le (grow 4 (7 * groups) value (byte % 128) q four-bits) (pow_mono {j = 32} (omega arith))

-- ---- a record

-- what a byte leaves of a record: part of one, where more is to come
abbrev pub StepKept : Step → Type 0
StepKept (More p) = HalfRead p
StepKept (Whole call) = Unit {0}
StepKept (Refused refusal) = Unit {0}

pub begun-half : (stage : Stage) → HalfRead (begun stage)
begun-half stage = record { few = omega arith; low = omega arith }

number-kept : (stage : Stage) (n : ℕ) → StepKept (number_of stage n)
unfolding number_of
number-kept Kind n = by_kind StepKept n (λ stage e. begun-half stage) tt
number-kept WriteAddress n = begun-half _
number-kept (WriteByte address) n = choice StepKept (ltb n 256) _ _ (λ _. tt) (λ _. tt)
number-kept ReadAddress n = tt
number-kept TickCount n = tt
number-kept ResultChannel n = begun-half _
number-kept (ResultCount channel) n = tt
number-kept PinLevel n = choice StepKept (ltb n 2) _ _ (λ _. tt) (λ _. tt)
number-kept WordAddress n = begun-half _
number-kept (WordValue address) n = choice StepKept (ltb n 65536) _ _ (λ _. tt) (λ _. tt)
number-kept PulseChannel n = tt

pub step_kept : (p : Partial) (byte : ℕ) → HalfRead p → StepKept (step_of p byte)
unfolding step_of
step_kept p byte h = taken (group_of p.groups p.value byte) (group-kept p.groups p.value byte h.few h.low)
  where
    taken : (g : Group) → GroupKept p.groups g → StepKept (group_taken p g)
    taken (group.More value) (few, low) = record { few = omega arith; low = low }
    taken (group.Last n) k = number-kept p.stage n
    taken (group.Refused refusal) k = tt
