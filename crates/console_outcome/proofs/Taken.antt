-- The first numbers of a list, at the front of a longer one.
use Prim.Native.Nat.{ℕ, min}
use mathlib.Core.Path.{◌≡◌, ◌∙◌}
use mathlib.Core.List.{List, ◌++◌}
use native.Mathlib.Omega.{arith}
use lib.ListN.{length, take, length-take}
use lib.Seq.{take_at}
use Rattle.lent.proofs.Parts.{take_min}

pub front-taken : (numbers taken rest : List ℕ) (most count : ℕ) → count ≡ min (length numbers) most → taken ≡ take count numbers →
    take count (taken ++ rest) ≡ take most numbers
front-taken numbers taken rest most count e t =
    let m : count ≡ min most (length numbers) = omega arith in
    take_at taken rest count (rw t (omega (arith, length-take count numbers))) ∙ t ∙ rw m (take_min most numbers)
