-- The words of a line one by one, and what is taken of them.
use Prim.Native.Nat.{ℕ, zero, suc, ◌+◌}
use mathlib.Core.Path.{◌≡◌, refl, ◌∙◌}
use mathlib.Core.List.{List, [], ◌∷◌, ◌++◌, map}
use mathlib.Core.Logic.{◌⊎◌, inl, inr}
use native.Mathlib.Omega.{arith}
use native.Mathlib.Numerals.{add-one}
use lib.ListN.{drop, set, replicate, drop_of_length-le}
use denote.Ref.{Bor}
use lib.Seq.{sets, drop-cons}
use Rattle.std.specs.Prelude.{Some, None, Ok, Err}
use Rattle.std.specs.List.{slice_get}
use Rattle.std.proofs.lemmas.Option.{slice_get_within, get_or_from_slice_get}
use Rattle.numbers.specs.Numbers.{limits}
use Rattle.console_table.specs.declared.Parameter.{Parameter}
use Rattle.console_table.specs.declared.Parameter.TheVariants.{Number}
use Rattle.console_table.specs.declared.Parameters.{Parameters}
use Rattle.console_table.specs.declared.Parameters.TheVariants.{Listed, StateNumbers, Any}
use Rattle.console_table.specs.Table.{any, state_numbers}
use Rattle.console_table.specs.Rows.{parameters_in}
use Rattle.console_commands.specs.declared.Reason.{Reason}
use Rattle.console_commands.specs.Commands.{value_of, taken_of, numbers_of, bytes_as, bytes_in}

-- ---- a list from an index on: the element there and the others, or nothing
from-here : {A : Type 0} (xs : List A) (i : ℕ) {x : A} → slice_get xs i ≡ Some x → drop i xs ≡ x ∷ drop (i + 1) xs
from-here xs i {x} e =
    drop-cons xs i x (slice_get_within xs i x e) ∙ rw (get_or_from_slice_get xs i x x e, add-one)

pub from-past : {A : Type 0} (xs : List A) (i : ℕ) → slice_get xs i ≡ None → drop i xs ≡ []
from-past [] i e = drop_of_length-le [] {i = i} (omega arith)
from-past (x ∷ xs) zero e = cc
from-past (x ∷ xs) (suc i) e = from-past xs i e

-- ---- no parameter is left, or no word
no-words : (parameters : List Parameter) (place : ℕ) →
    (taken_of parameters place [] ≡ Ok tt) × (numbers_of parameters place [] ≡ []) × (bytes_in parameters [] ≡ [])
unfolding taken_of numbers_of bytes_in
no-words [] place = (refl, refl, refl)
no-words (parameter ∷ parameters) place = (refl, refl, refl)

pub nothing-left : (parameters : List Parameter) (words : List (List ℕ)) (place : ℕ) → (parameters ≡ []) ⊎ (words ≡ []) →
    (taken_of parameters place words ≡ Ok tt) × (numbers_of parameters place words ≡ []) × (bytes_in parameters words ≡ [])
unfolding taken_of numbers_of bytes_in
nothing-left parameters words place (inl e) = rw e (refl, refl, refl)
nothing-left parameters words place (inr e) = rw e (no-words parameters place)

-- ---- a word is taken as a parameter, and the others after it
module _ (parameters : List Parameter) (i : ℕ) {parameter : Parameter} (p : slice_get parameters i ≡ Some parameter) {words rest : List (List ℕ)}
    {word : List ℕ} (e : words ≡ word ∷ rest) (first : ℕ) where
  place-next : first + i + 1 ≡ first + (i + 1)
  place-next = omega arith

  module _ {reason : Reason} (q : value_of parameter (first + i) word ≡ Err reason) where
    pub one-refused : taken_of (drop i parameters) (first + i) words ≡ Err reason
    unfolding taken_of
    one-refused = rw (from-here parameters i p, e, q)

    pub none-stored : numbers_of (drop i parameters) (first + i) words ≡ []
    unfolding numbers_of
    none-stored = rw (from-here parameters i p, e, q)

  module _ {n : ℕ} (q : value_of parameter (first + i) word ≡ Ok n) where
    pub one-taken : taken_of (drop i parameters) (first + i) words ≡ taken_of (drop (i + 1) parameters) (first + (i + 1)) rest
    unfolding taken_of
    one-taken = rw (from-here parameters i p, e, q, place-next)

    pub one-stored : (values : List ℕ) → sets values i (numbers_of (drop i parameters) (first + i) words) ≡
        sets (set values i n) (i + 1) (numbers_of (drop (i + 1) parameters) (first + (i + 1)) rest)
    unfolding numbers_of
    one-stored values = rw (from-here parameters i p, e, q, place-next, add-one)

-- and its bytes
pub one-put : (parameters : List Parameter) (i : ℕ) {parameter : Parameter} → slice_get parameters i ≡ Some parameter → {words rest : List (List ℕ)}
    {word : List ℕ} → words ≡ word ∷ rest →
    bytes_in (drop i parameters) words ≡ bytes_as parameter word ++ bytes_in (drop (i + 1) parameters) rest
unfolding bytes_in
one-put parameters i p e = rw (from-here parameters i p, e)

-- ---- parameters that are not listed are numbers, which have no bytes
numbers-bytes : (each : List ℕ) (words : List (List ℕ)) → bytes_in (map (λ most. Number most) each) words ≡ []
unfolding bytes_in
numbers-bytes [] words = refl
numbers-bytes (most ∷ each) [] = refl
numbers-bytes (most ∷ each) (word ∷ words) = numbers-bytes each words

any-bytes : (count : ℕ) (words : List (List ℕ)) → bytes_in (replicate count any) words ≡ []
unfolding bytes_in
any-bytes zero words = refl
any-bytes (suc count) [] = refl
any-bytes (suc count) (word ∷ words) = any-bytes count words

pub unlisted : (parameters : Parameters) (words : List (List ℕ)) → ((listed : Bor (List Parameter)) → parameters ≡ Listed listed → ⊥) →
    bytes_in (parameters_in parameters) words ≡ []
unfolding state_numbers
unlisted (Listed listed) words n = absurd (n listed refl)
unlisted StateNumbers words n = numbers-bytes limits words
unlisted (Any count) words n = any-bytes count words
