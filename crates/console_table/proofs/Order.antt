-- The order of the rows does not matter: a word names a row exactly where the table has that row with that name.
use Prim.Native.Nat.{ℕ, ◌+◌}
use mathlib.Core.Path.{◌≡◌, refl, sym, ap, ◌∙◌}
use mathlib.Core.Bool.{Bool, true, false, not, ◌&&◌}
use mathlib.Core.List.{List, [], ◌∷◌, Memᴰ}
use Rattle.rules.specs.Basics.{every}
use Rattle.rules.proofs.Tests.{and_left, and_right}
use Rattle.console_text.specs.Words.{run_of}
use Rattle.std.specs.Str.{bytes_eq}
use Rattle.std.proofs.lemmas.Slice.Eq.{bytes_eq-Decides}
use Rattle.console_table.specs.Table.{Row, commands, name_of, known, named_among}

pub every-member : {A : Type 0} (test : A → Bool) {x : A} (xs : List A) → every test xs ≡ true → Memᴰ x xs → test x ≡ true
every-member test [] e m = elim m [ ]
every-member test (y ∷ xs) e (Memᴰ.head p) = ap test p ∙ and_left (test y) (every test xs) e
every-member test (y ∷ xs) e (Memᴰ.tail m) = every-member test xs (and_right (test y) (every test xs) e) m

-- ---- no name stands twice
abbrev differ : List Row → Bool
differ [] = true
differ (row ∷ rows) = every (λ other. not (bytes_eq (name_of other) (name_of row))) rows && differ rows

pub names-differ : differ commands ≡ true
unfolding commands run_of
names-differ = refl

not-true : (b : Bool) → not b ≡ true → b ≡ false
not-true true e = sym e
not-true false e = refl

-- ---- a row of the table is named by its name, wherever it stands
pub named-by-name : (rows : List Row) (i : ℕ) {row : Row} → differ rows ≡ true → Memᴰ row rows → (j : ℕ) × (named_among rows i (name_of row) ≡ known j row)
unfolding named_among
named-by-name [] i d m = elim m [ ]
named-by-name (r ∷ rows) i d (Memᴰ.head e) = (i, rw (e, (bytes_eq-Decides (name_of r) (name_of r)).1 refl))
named-by-name (r ∷ rows) i {row} d (Memᴰ.tail m) =
    let apart = every-member (λ other. not (bytes_eq (name_of other) (name_of r))) rows (and_left _ (differ rows) d) m in
    let later = named-by-name rows (i + 1) (and_right (every (λ other. not (bytes_eq (name_of other) (name_of r))) rows) (differ rows) d) m in
    (later.0, rw (not-true (bytes_eq (name_of row) (name_of r)) apart) later.1)
