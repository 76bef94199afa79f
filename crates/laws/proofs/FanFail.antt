-- The FAN_FAIL query by counts of bits: on the fault byte with the mask removed, the ones are the failed channels, and the zeros
-- below the lowest one are the channels below the lowest of them.
use Prim.Native.Nat.{ℕ, ◌+◌, ◌-◌, ◌<◌}
use mathlib.Core.Path.{◌≡◌, refl, sym, ap}
use mathlib.Core.Bool.{Bool, true, false, not, ◌&&◌, beq}
use mathlib.Core.List.{List, [], ◌∷◌, map}
use native.Mathlib.Omega.{arith}
use lib.Bits.{bit_and}
use lib.Count.{ones, count_trailing_zeros}
use lib.Dec.{eqb}
use lib.ListN.{length}
use borrow.Author.Tests.{eqb-true, ne_eqb}
use Rattle.laws.proofs.Types.{State}
use Rattle.std.specs.Prelude.{if◌then◌else◌}
use Rattle.rules.specs.Basics.{some, bit}
use Rattle.rules.specs.Registers.{mask_kept}
use Rattle.rules.specs.Duty.{fault_byte}
use Rattle.rules.specs.FanFail.{failed, how_many, lowest_from, fan_fail_answer, fan_fail_of}
use Rattle.rules.specs.Valid.{valid_of}
use Rattle.rules.specs.Calls.{accepted}
use Rattle.rules.proofs.Tests.{and_left, and_right, same, all_below, all-below}
use Rattle.laws.proofs.Each.{map-alike}
use Rattle.laws.proofs.Faults.{fault-bit, fault-byte-small}
use Rattle.laws.proofs.Valid.{parts, registers-parts}

-- the fault byte with the mask removed, as a byte operation gives it
abbrev pub unmasked : ℕ → ℕ → ℕ
unmasked faults mask = bit_and faults (255 - mask)

abbrev failed_bits : ℕ → ℕ → List Bool
failed_bits faults mask = map (λ i. bit i faults && not (bit i mask)) (0 ∷ 1 ∷ 2 ∷ 3 ∷ 4 ∷ 5 ∷ [])

failed-bits : (s : State) → failed s ≡ failed_bits (fault_byte s.channels) s.registers.mask1
failed-bits s =
    map-alike _ _ (λ i. ap (λ b. b && not (bit i s.registers.mask1)) (sym (fault-bit s.channels i))) (0 ∷ 1 ∷ 2 ∷ 3 ∷ 4 ∷ 5 ∷ [])

-- what the counts give, for every pair of bytes of six bits: by a test of each pair
abbrev lowest_bit : ℕ → ℕ
lowest_bit x = if eqb x 0 then 0 else count_trailing_zeros 8 x + 1

record Counted (x : ℕ) (bs : List Bool) : Type 0 where
  asserted : not (eqb x 0) ≡ some (λ b. b) bs
  many : ones x ≡ how_many bs
  lowest : lowest_bit x ≡ lowest_from 1 bs

abbrev counted_test : ℕ → List Bool → Bool
counted_test x bs = beq (not (eqb x 0)) (some (λ b. b) bs) && eqb (ones x) (how_many bs) && eqb (lowest_bit x) (lowest_from 1 bs)

test-counted : (x : ℕ) (bs : List Bool) → counted_test x bs ≡ true → Counted x bs
test-counted x bs e =
    let two = and_left (beq (not (eqb x 0)) (some (λ b. b) bs) && eqb (ones x) (how_many bs)) _ e in
    record {
      asserted = same _ _ (and_left _ _ two);
      many = eqb-true _ _ (and_right (beq (not (eqb x 0)) (some (λ b. b) bs)) _ two);
      lowest = eqb-true _ _ (and_right (beq (not (eqb x 0)) (some (λ b. b) bs) && eqb (ones x) (how_many bs)) _ e);
    }

abbrev bytes_test : ℕ → ℕ → Bool
bytes_test faults mask = counted_test (unmasked faults mask) (failed_bits faults mask)

bytes_counted : all_below 64 (λ faults. all_below 64 (bytes_test faults)) ≡ true
unfolding ones lib.Count.ones_in count_trailing_zeros
bytes_counted = refl

counted : (s : State) → fault_byte s.channels < 64 → s.registers.mask1 < 64 →
    Counted (unmasked (fault_byte s.channels) s.registers.mask1) (failed s)
counted s hf hm =
    let faults = fault_byte s.channels in
    let mask = s.registers.mask1 in
    let row = all-below 64 (λ f. all_below 64 (bytes_test f)) bytes_counted faults hf in
    rw (failed-bits s) (test-counted _ _ (all-below 64 (bytes_test faults) row mask hm))

-- what the query gives of a valid state, by its byte: where it is 0, and where it is x
module _ (s : State) (v : valid_of s ≡ true) (six : length s.channels ≡ 6) where
  told : Counted (unmasked (fault_byte s.channels) s.registers.mask1) (failed s)
  told =
      let mask = s.registers.mask1 in
      let kept = eqb-true (mask_kept mask) mask (registers-parts s.registers (parts s v).registers).mask1 in
      counted s (fault-byte-small s.channels (omega (arith, six))) (omega (arith, kept))

  pub fan-fail-none : unmasked (fault_byte s.channels) s.registers.mask1 ≡ 0 → fan_fail_answer accepted false 0 0 s ≡ fan_fail_of s
  unfolding fan_fail_of ones lib.Count.ones_in
  fan-fail-none none = rw (v, sym told.asserted, sym told.many, sym told.lowest, none) refl

  pub fan-fail-some : (x : ℕ) → x ≡ unmasked (fault_byte s.channels) s.registers.mask1 → (x ≡ 0 → ⊥) →
      fan_fail_answer accepted true (ones x) (count_trailing_zeros 8 x + 1) s ≡ fan_fail_of s
  unfolding fan_fail_of
  fan-fail-some x is some_left = rw (v, sym told.asserted, sym told.many, sym told.lowest, sym is, ne_eqb x 0 some_left) refl
