-- The refusals of a byte write and of a word write by the address, in the order of the papers: 2, 3, 8 and, of a byte, 4.
use Prim.Native.Nat.{ℕ, ◌%◌}
use mathlib.Core.Path.{◌≡◌, refl}
use mathlib.Core.Bool.{not, ◌&&◌}
use mathlib.Core.List.{[], ◌∷◌, map}
use lib.Dec.{eqb}
use Rattle.std.specs.Prelude.{if◌then◌else◌}
use Rattle.rules.specs.Registers.{config_refused}
use Rattle.rules.specs.Map.{setting_at, status_at, target_at, place_at, among, carried_rows, read_only_rows, target_rows, config_rows}
use Rattle.rules.specs.Calls.{accepted, not_carried, read_only, config_not_allowed, wrong_width}
use Rattle.rules.specs.Write.{write_refusal}
use Rattle.rules.specs.WriteWord.{word_refusal}
use Rattle.rules.proofs.Map.{map-as-listed}

-- K6: "8, after 3: a byte write to 40h to 4Bh or 50h to 5Bh"
pub write-refused-by : (a b : ℕ) → write_refusal (place_at a) b ≡ (
    if not (among carried_rows a) then not_carried
    else if among read_only_rows a then read_only
    else if among target_rows a then wrong_width
    else if among config_rows a && config_refused b then config_not_allowed
    else accepted)
unfolding write_refusal
write-refused-by a b =
    let listed = map-as-listed a in
    rw (listed.carried, listed.read-only, listed.target, listed.config) refl

-- "or a word write elsewhere or to an odd address"
pub word-refused-by : (a : ℕ) → word_refusal (place_at a) ≡ (
    if not (among carried_rows a) then not_carried
    else if among read_only_rows a then read_only
    else if not (among target_rows a && eqb (a % 2) 0) then wrong_width
    else accepted)
unfolding word_refusal
word-refused-by a =
    let listed = map-as-listed a in
    rw (listed.carried, listed.read-only, listed.first) refl

-- a word to 3Ch, 18h, 00h, 02h, 41h, 40h and 5Ah; a byte to 41h and 50h, with bits that refusal 4 asks for or none, and to 02h
pub write-refused-examples :
    (map (λ a. word_refusal (place_at a)) (0x3C ∷ 0x18 ∷ 0x00 ∷ 0x02 ∷ 0x41 ∷ 0x40 ∷ 0x5A ∷ []) ≡ 2 ∷ 3 ∷ 8 ∷ 8 ∷ 8 ∷ 0 ∷ 0 ∷ [])
    × (map (λ a. write_refusal (place_at a) 0x85) (0x41 ∷ 0x50 ∷ 0x02 ∷ []) ≡ 8 ∷ 8 ∷ 4 ∷ [])
    × (map (λ a. write_refusal (place_at a) 0x00) (0x41 ∷ 0x50 ∷ 0x02 ∷ []) ≡ 8 ∷ 8 ∷ 0 ∷ [])
unfolding write_refusal word_refusal place_at setting_at status_at target_at
write-refused-examples = (refl, refl, refl)
