-- The bytes of a line in two parts.
use Prim.Native.Nat.{ℕ, ◌+◌, ◌≤◌}
use mathlib.Core.Path.{◌≡◌, refl, ◌∙◌}
use mathlib.Core.List.{List, ◌++◌, append_assoc}
use native.Mathlib.Omega.{arith}
use lib.ListN.{length, drop, length-append}
use lib.Seq.{sets, sets-eq, take_at, drop_at}
use Rattle.console_galley.specs.Commands.{normal_by, quiet_by}

-- the bytes of a line are those of its two words one after the other: each table is the bytes of its own word
pub tables-back : (normal quiet buffer : List ℕ) → length normal + length quiet ≤ length buffer →
    (normal_by (length normal) (sets buffer 0 (normal ++ quiet)) ≡ normal)
    × (quiet_by (length normal) (length quiet) (sets buffer 0 (normal ++ quiet)) ≡ quiet)
tables-back normal quiet buffer h =
    let rest = drop (0 + length (normal ++ quiet)) buffer in
    let room : 0 + length (normal ++ quiet) ≤ length buffer = rw length-append (omega arith) in
    let all : sets buffer 0 (normal ++ quiet) ≡ normal ++ (quiet ++ rest) = sets-eq (normal ++ quiet) buffer 0 room ∙ append_assoc normal quiet rest in (
      rw all (take_at normal (quiet ++ rest) (length normal) refl),
      rw (all, drop_at normal (quiet ++ rest) (length normal) refl) (take_at quiet rest (length quiet) refl),
    )
