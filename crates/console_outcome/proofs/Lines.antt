-- The line of an outcome, put piece by piece, and how long it is.
use Prim.Native.Nat.{ℕ, ◌+◌, ◌*◌, ◌≤◌, ◌<◌}
use mathlib.Core.Path.{◌≡◌, refl, sym, ap}
use mathlib.Core.Bool.{Bool, true, false, not}
use mathlib.Core.List.{List, [], ◌∷◌, ◌++◌, append_assoc}
use native.Mathlib.Numerals.{add-one}
use native.Mathlib.Omega.{arith}
use lib.ListN.{length, get_or, take, drop, drop_of_length-le, length-append, length-take}
use lib.Seq.{drop-cons}
use lib.Dec.{eqb}
use Rattle.std.proofs.Math.Dec.{eqb-suc-zero}
use Rattle.lent.specs.declared.Page.{Page}
use Rattle.lent.specs.Put.{Puts}
use Rattle.lent.proofs.Stores.{puts-append}
use Rattle.console_text.proofs.Lengths.{digits-length, signed-length}
use Rattle.console_text.specs.Signed.{integer_of}
use Rattle.console_hex.specs.Bytes.{hex_of}
use Rattle.console_hex.proofs.Pairs.{hex-length}
use Rattle.numbers.specs.Numbers.{number_count}
use Rattle.std.specs.Prelude.{Option, None, Some}
use Rattle.console_outcome.specs.Outcome.{part_of, told_of, space_after, number_text, numbers_text, begun, end_by, line_by, line_of, line_most}
use Rattle.console_outcome.specs.declared.outcome.Outcome.{Outcome}

-- ---- number by number
module _ (signed : Bool) (numbers : List ℕ) (i : ℕ) where
  pub numbers-next : (some : Bool) → i < length numbers →
      numbers_text signed some (drop i numbers)
      ≡ (space_after some ++ number_text signed (get_or numbers i 0)) ++ numbers_text signed true (drop (i + 1) numbers)
  unfolding numbers_text
  numbers-next some h = rw (add-one, drop-cons numbers i 0 h) (sym (append_assoc (space_after some) (number_text signed (get_or numbers i 0)) _))

  pub numbers-end : (some : Bool) → length numbers ≤ i → numbers_text signed some (drop i numbers) ≡ []
  unfolding numbers_text
  numbers-end some h = rw (drop_of_length-le numbers h)

pub some-numbers : (numbers : List ℕ) → not (eqb (length numbers) 0) ≡ begun numbers
some-numbers [] = refl
some-numbers (n ∷ numbers) = ap not (eqb-suc-zero (length numbers))

-- ---- how long it is at most
number-length : (signed : Bool) (n : ℕ) → length (number_text signed n) ≤ 11
number-length true n = signed-length (integer_of n)
number-length false n = omega (arith, digits-length 1 n)

space-length : (some : Bool) → length (space_after some) ≤ 1
space-length true = omega arith
space-length false = omega arith

numbers-length : (signed some : Bool) (numbers : List ℕ) → length (numbers_text signed some numbers) ≤ 12 * length numbers
unfolding numbers_text
numbers-length signed some [] = omega arith
numbers-length signed some (n ∷ numbers) =
    rw (length-append, length-append) (omega (arith, space-length some, number-length signed n, numbers-length signed true numbers))

bytes-length : (most : ℕ) (bytes : List ℕ) → length bytes ≤ most → length (hex_of bytes) ≤ 2 * most + 1
unfolding hex_of
bytes-length most [] h = omega arith
bytes-length most (byte ∷ bytes) h = omega (arith, hex-length most (omega arith) (byte ∷ bytes) h)

end-length : (some : Bool) (bytes : Option ℕ) (buffer : List ℕ) → length (end_by some (part_of bytes buffer)) ≤ 2 * length buffer + 3
end-length true None buffer = omega arith
end-length false None buffer = omega arith
end-length some (Some count) buffer =
    rw (length-append, length-append)
    (omega (arith, space-length some, bytes-length (length buffer) (take count buffer) (omega (arith, length-take count buffer))))

-- ---- the whole line
pub line-puts : (signed : Bool) (bytes : Option (List ℕ)) (numbers : List ℕ) {some : Bool} {before between after : Page} → some ≡ begun numbers →
    Puts (numbers_text signed false numbers) before between → Puts (end_by some bytes) between after → Puts (line_by signed numbers bytes) before after
unfolding line_by
line-puts signed bytes numbers e p q = puts-append p (rw e at q)

-- numbers alone
pub plain-length : (signed : Bool) (numbers : List ℕ) → length (line_by signed numbers None) ≤ 12 * length numbers + 3
unfolding line_by
plain-length signed numbers = rw length-append (omega (arith, numbers-length signed false numbers, end-length (begun numbers) None []))

pub line-length : (outcome : Outcome) (buffer : List ℕ) → length (told_of outcome buffer).numbers ≤ number_count → length (line_of (told_of outcome buffer)) ≤ line_most (length buffer)
unfolding line_by
line-length outcome buffer h =
    let numbers = (told_of outcome buffer).numbers in
    rw length-append
    (omega (arith, numbers-length outcome.signed false numbers, end-length (begun numbers) outcome.bytes buffer))
