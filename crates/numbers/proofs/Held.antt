-- Numbers within limits: their low bits are the whole of them, in front and behind.
use Prim.Native.Nat.{ℕ, zero, suc, ◌+◌, ◌%◌, ◌≤◌}
use mathlib.Core.Path.{◌≡◌, refl, ap, ap₂}
use mathlib.Core.Bool.{Bool, true, false}
use mathlib.Core.List.{List, [], ◌∷◌, ◌++◌}
use native.Mathlib.Omega.{arith}
use native.Mathlib.Nat.{mod-eq_of_lt}
use lib.ListN.{length, get_or, take, drop}
use lib.Seq.{drop-cons}
use mir.Val.{bool_byte}
use Rattle.rules.specs.Basics.{flag}
use Rattle.numbers.specs.Numbers.{Within}

-- each number's low bits, up to its limit
abbrev pub held : List ℕ → List ℕ → List ℕ
held [] numbers = []
held (most ∷ limits) [] = []
held (most ∷ limits) (n ∷ numbers) = n % (most + 1) ∷ held limits numbers

pub held_whole : (limits numbers : List ℕ) → Within limits numbers → held limits numbers ≡ numbers
unfolding Within
held_whole [] [] w = refl
held_whole [] (n ∷ numbers) w = absurd w
held_whole (most ∷ limits) [] w = absurd w
held_whole (most ∷ limits) (n ∷ numbers) w =
    ap₂ (λ a l. a ∷ l) (let h : n ≤ most = w.0 in mod-eq_of_lt (omega arith)) (held_whole limits numbers w.1)

pub within_none : (numbers : List ℕ) → Within [] numbers → numbers ≡ []
unfolding Within
within_none [] w = refl
within_none (n ∷ numbers) w = absurd w

pub within-length : (limits numbers : List ℕ) → Within limits numbers → length numbers ≡ length limits
unfolding Within
within-length [] [] w = refl
within-length [] (n ∷ numbers) w = absurd w
within-length (most ∷ limits) [] w = absurd w
within-length (most ∷ limits) (n ∷ numbers) w = ap suc (within-length limits numbers w.1)

-- the front of them, and the rest
pub within-take : (l m numbers : List ℕ) → Within (l ++ m) numbers → Within l (take (length l) numbers)
unfolding Within
within-take [] m numbers w = tt
within-take (most ∷ l) m [] w = absurd w
within-take (most ∷ l) m (n ∷ numbers) w = (w.0, within-take l m numbers w.1)

pub within-drop : (l m numbers : List ℕ) → Within (l ++ m) numbers → Within m (drop (length l) numbers)
unfolding Within
within-drop [] m numbers w = w
within-drop (most ∷ l) m [] w = absurd w
within-drop (most ∷ l) m (n ∷ numbers) w = within-drop l m numbers w.1

-- n numbers from index k on, each by its index
abbrev pub listed : List ℕ → ℕ → ℕ → List ℕ
listed numbers k zero = []
listed numbers k (suc n) = get_or numbers k 0 ∷ listed numbers (suc k) n

pub listed-take : (numbers : List ℕ) (k n : ℕ) → k + n ≤ length numbers → take n (drop k numbers) ≡ listed numbers k n
listed-take numbers k zero h = refl
listed-take numbers k (suc n) h =
    rw (drop-cons numbers k 0 (omega arith)) (ap (λ l. get_or numbers k 0 ∷ l) (listed-take numbers (suc k) n (omega arith)))

-- a flag as the machine has it
pub flag-byte : (on : Bool) → bool_byte on ≡ flag on
flag-byte true = refl
flag-byte false = refl

pub flag-byte-le : (on : Bool) → bool_byte on ≤ 1
flag-byte-le true = omega arith
flag-byte-le false = omega arith
