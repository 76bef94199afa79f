-- Temperatures as signed integers: one in range fits 16 bits, and the row of one and a few eighths more.
use Prim.Native.Nat.{ℕ, suc, ◌+◌, ◌-◌, ◌/◌, ◌≤◌, min}
use mathlib.Core.Path.{◌≡◌, sym}
use mathlib.Core.Bool.{true}
use native.Mathlib.Omega.{arith}
use lib.Dec.{leb, ltb}
use lib.IntN.{ℤ, pos, negsuc, nat_abs, ◌+ℤ◌}
use borrow.Author.Tests.{leb-true}
use mir.Syntax.{w16, w32}
use mir.Val.{SFits}
use Rattle.std.specs.Int.{FitsUnsignedBits}
use Rattle.rules.proofs.Tests.{by-test, and_left}
use Rattle.galley_rules.specs.Temperature.{in_range, row_of}
use Rattle.galley_rules.proofs.Temperature.{row-above, row_below}

-- a temperature in range fits 16 bits
pub in-range-fits : (t : ℤ) → in_range t ≡ true → SFits w16 t
unfolding in_range
in-range-fits (pos n) e = record { sfits = omega (arith, leb-true n 1_023 e) }
in-range-fits (negsuc n) e = record { sfits = omega (arith, leb-true n 1_023 (and_left (leb n 1_023) true e)) }

-- ---- the row of a temperature and a few eighths more

-- below 0, the first row
pub row-cold : (t : ℤ) (more : ℕ) → SFits w32 t → (FitsUnsignedBits 32 t → ⊥) → more ≤ 32 → 0 ≡ row_of (t +ℤ pos more)
row-cold (pos n) more fits cold h = absurd (cold (omega arith))
row-cold (negsuc n) more fits cold h =
    by-test (ltb more (suc n))
    (λ below. rw below (sym (row_below _)))
    (λ above. rw (above, row-above (more - suc n)) (omega arith))

-- from 0 on
pub row-warm : (t : ℤ) (n more : ℕ) → FitsUnsignedBits 32 t × (n ≡ nat_abs t) → min ((n + more) / 16 - 8) 47 ≡ row_of (t +ℤ pos more)
row-warm (pos n) m more h = rw h.1 (sym (row-above (n + more)))
row-warm (negsuc n) m more h = absurd h.0
