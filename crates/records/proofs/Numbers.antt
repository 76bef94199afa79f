-- A byte of a number, in the code: its tests decide what `group_of` says, one law for each return; and what it makes of a record.
use Prim.Native.Nat.{ℕ, ◌+◌, ◌*◌, ◌%◌, ◌^◌, ◌<◌, ◌≤◌}
use mathlib.Core.Path.{◌≡◌, sym, subst}
use mathlib.Core.Bool.{and-false}
use lib.Dec.{eqb}
use native.Mathlib.Omega.{arith}
use native.Mathlib.Nat.{mod-lt}
use lib.Pow.{shl_exact}
use borrow.Author.Tests.{lt-ltb, le-ltb, eq-eqb, eqb-true, eqb-false}
use Rattle.rules.proofs.Tests.{by-test}
use Rattle.strings.specs.Group.{Group}
use Rattle.strings.specs.Group.{More, Last, Refused}
use Rattle.strings.specs.Number.{long_form, number_too_large, group_of}
use Rattle.strings.specs.Partial.{Partial, partial, HalfRead}
use Rattle.strings.specs.Record.{group_taken, step_of}
use Rattle.strings.proofs.Groups.{last-group, more-group, GroupKept, group-kept}

module _ (groups value byte : ℕ) where
  pub fifth-above : groups ≡ 4 → 15 < byte → Refused number_too_large ≡ group_of groups value byte
  unfolding group_of
  fifth-above p q = simp (eq-eqb groups 4 p, lt-ltb 15 byte q)

  pub zero-after : 0 < groups → byte ≡ 0 → Refused long_form ≡ group_of groups value byte
  unfolding group_of
  zero-after p q = simp (eq-eqb byte 0 q, le-ltb 15 byte (omega arith), lt-ltb 0 groups p, and-false)

  module _ (few : groups ≤ 4) (fifth : groups ≡ 4 → byte < 16) where
    -- the shift loses nothing: four bits are shifted by at most 28, and seven by at most 21
    kept : byte % 128 * 2 ^ (7 * groups) % 2 ^ 32 ≡ byte % 128 * 2 ^ (7 * groups)
    kept =
        by-test (eqb groups 4)
        (λ e. let is = eqb-true groups 4 e in let low = fifth is in shl_exact 4 (7 * groups) 32 (omega arith) (omega arith))
        (λ e. let not = eqb-false groups 4 e in shl_exact 7 (7 * groups) 32 (mod-lt byte (omega arith)) (omega (arith, not)))

    pub last : byte < 128 → (0 < groups → 0 < byte) → Last (value + byte % 128 * 2 ^ (7 * groups) % 2 ^ 32) ≡ group_of groups value byte
    last low first =
        let same : byte % 128 ≡ byte = omega arith in
        rw (kept, same) (sym (last-group groups value byte low fifth first))

    pub more : 128 ≤ byte → More (value + byte % 128 * 2 ^ (7 * groups) % 2 ^ 32) ≡ group_of groups value byte
    more high = rw kept (sym (more-group groups value byte high (λ e. let low = fifth e in omega arith)))

-- what the group makes of a record, and of its number where more is to come
pub step_is : (p : Partial) (byte : ℕ) (g : Group) → g ≡ group_of p.groups p.value byte → group_taken p g ≡ step_of p byte
unfolding step_of
step_is p byte g e = rw e

pub more-half : (p : Partial) (byte value : ℕ) → HalfRead p → More value ≡ group_of p.groups p.value byte → HalfRead (partial p.stage (p.groups + 1) value)
more-half p byte value h e =
    let k = subst (GroupKept p.groups) (sym e) (group-kept p.groups p.value byte h.few h.low) in
    record { few = omega (arith, k.0); low = k.1 }
