-- The map carries just the paper's 85 registers, and those that refusals ask for are just the listed ones; a channel's index is below 6.
use Prim.Native.Nat.{ℕ, zero, suc, ◌+◌, ◌%◌, ◌<◌, ◌≤◌}
use mathlib.Core.Path.{◌≡◌, refl, sym, ◌∙◌, ap}
use mathlib.Core.Bool.{Bool, true, false, ◌&&◌, beq, and-false}
use mathlib.Core.List.{List, [], ◌∷◌}
use native.Mathlib.Omega.{arith}
use native.Mathlib.Decide.{dec_lt}
use lib.Dec.{ltb, eqb}
use borrow.Author.Tests.{ltb-true, ltb-false, lt-leb}
use Rattle.rules.specs.Types.{Place, Absent}
use Rattle.std.specs.Prelude.{if◌then◌else◌}
use Rattle.rules.specs.Basics.{flag, every}
use Rattle.rules.specs.Map.{setting_at, status_at, target_at, place_at, index_of, is_carried, is_read_only, is_target, is_first, is_config, Row, among, carried_rows, read_only_rows, target_rows, config_rows}
use Rattle.rules.proofs.Tests.{choice, and_left, and_right, same, all_below, all-below}

-- what holds of every rung of the map
record Rung (a : ℕ) (p : Place) : Type 0 where
  small : index_of p < 6
  beyond : 0x66 ≤ a → p ≡ Absent

below : (a limit : ℕ) (p q : Place) → (a < limit → Rung a p) → (limit ≤ a → Rung a q) → Rung a (if ltb a limit then p else q)
below a limit p q f g = choice (Rung a) (ltb a limit) p q (λ e. f (ltb-true a limit e)) (λ e. g (ltb-false a limit e))

absent : (a : ℕ) → Rung a Absent
absent a = record { small = omega arith; beyond = λ h. refl }

rung : (a limit : ℕ) (p q : Place) → limit ≤ 0x66 → (a < limit → index_of p < 6) → (limit ≤ a → Rung a q) →
    Rung a (if ltb a limit then p else q)
rung a limit p q l i g = below a limit p q (λ h. record { small = i h; beyond = λ b. absurd (omega arith) }) g

setting-rung : (a : ℕ) → Rung a (setting_at a)
unfolding setting_at
setting-rung a =
    rung a _ _ _ (omega arith) (λ h. omega arith) λ _.
    rung a _ _ _ (omega arith) (λ h. omega arith) λ _.
    rung a _ _ _ (omega arith) (λ h. omega arith) λ _.
    rung a _ _ _ (omega arith) (λ h. omega arith) λ _.
    rung a _ _ _ (omega arith) (λ h. omega arith) λ _.
    rung a _ _ _ (omega arith) (λ h. omega arith) λ _.
    rung a _ _ _ (omega arith) (λ h. omega arith) λ _.
    rung a _ _ _ (omega arith) (λ h. omega arith) λ _.
    rung a _ _ _ (omega arith) (λ h. omega arith) λ _.
    rung a _ _ _ (omega arith) (λ h. omega arith) λ _. absent a

status-rung : (a : ℕ) → Rung a (status_at a)
unfolding status_at
status-rung a =
    rung a _ _ _ (omega arith) (λ h. omega arith) λ _.
    rung a _ _ _ (omega arith) (λ h. omega arith) λ _.
    rung a _ _ _ (omega arith) (λ h. omega arith) λ _. absent a

target-rung : (a : ℕ) → Rung a (target_at a)
unfolding target_at
target-rung a =
    rung a _ _ _ (omega arith) (λ h. omega arith) λ _.
    rung a _ _ _ (omega arith) (λ h. omega arith) λ _.
    rung a _ _ _ (omega arith) (λ h. omega arith) λ _.
    rung a _ _ _ (omega arith) (λ h. omega arith) λ _.
    rung a _ _ _ (omega arith) (λ h. omega arith) λ _. absent a

place-rung : (a : ℕ) → Rung a (place_at a)
unfolding place_at
place-rung a = below a _ _ _ (λ h. setting-rung a) λ _. below a _ _ _ (λ h. status-rung a) λ _. target-rung a

-- the channel that the map names is one of the six
pub place-below-six : (a : ℕ) → index_of (place_at a) < 6
place-below-six a = (place-rung a).small

-- ---- the papers' lists

-- no row goes past 65h
past : (rows : List Row) → every (λ row. ltb row.last 0x66) rows ≡ true → (a : ℕ) → 0x66 ≤ a → among rows a ≡ false
past [] e a h = refl
past (row ∷ rows) e a h =
    let l : row.last < a = omega (arith, ltb-true row.last 0x66 (and_left (ltb row.last 0x66) _ e)) in
    rw (lt-leb a row.last l, and-false, past rows (and_right (ltb row.last 0x66) _ e) a h)

-- what is asked of the place is just what is listed of the address: by a test of every byte, as nothing stands above
module _ (asked : Place → Bool) (listed : ℕ → Bool) (none : asked Absent ≡ false) (nothing : (a : ℕ) → 0x66 ≤ a → listed a ≡ false)
    (bytes : all_below 256 (λ a. beq (asked (place_at a)) (listed a)) ≡ true) where
  as-listed : (a : ℕ) → asked (place_at a) ≡ listed a
  as-listed a =
      elim (dec_lt a 256) [
        | yes l ↦ same _ _ (all-below 256 (λ n. beq (asked (place_at n)) (listed n)) bytes a l)
        | no g ↦ ap asked ((place-rung a).beyond (omega arith)) ∙ none ∙ sym (nothing a (omega arith))
      ]

-- what is carried, what can only be read, the targets, of them the even addresses, and the fan configurations
pub record AsListed (a : ℕ) : Type 0 where
  pub carried : is_carried (place_at a) ≡ among carried_rows a
  pub read-only : is_read_only (place_at a) ≡ among read_only_rows a
  pub target : is_target (place_at a) ≡ among target_rows a
  pub first : is_first (place_at a) ≡ (among target_rows a && eqb (a % 2) 0)
  pub config : is_config (place_at a) ≡ among config_rows a

pub map-as-listed : (a : ℕ) → AsListed a
unfolding place_at setting_at status_at target_at
map-as-listed a =
    record {
      carried = as-listed is_carried (among carried_rows) refl (past carried_rows refl) refl a;
      read-only = as-listed is_read_only (among read_only_rows) refl (past read_only_rows refl) refl a;
      target = as-listed is_target (among target_rows) refl (past target_rows refl) refl a;
      first = as-listed is_first (λ n. among target_rows n && eqb (n % 2) 0) refl (λ n h. rw (past target_rows refl n h) refl) refl a;
      config = as-listed is_config (among config_rows) refl (past config_rows refl) refl a;
    }

-- how many numbers below n pass a test
abbrev pub count_below : ℕ → (ℕ → Bool) → ℕ
count_below zero test = 0
count_below (suc n) test = flag (test n) + count_below n test

-- "There are 85", and none above
pub carries-85 : count_below 256 (λ a. is_carried (place_at a)) ≡ 85
unfolding place_at setting_at status_at target_at
carries-85 = refl
