-- Digits put from the last to the first.
use Prim.Native.Nat.{ℕ, zero, suc, ◌+◌, ◌-◌, ◌/◌, ◌%◌, ◌≤◌, ◌<◌}
use mathlib.Core.Path.{◌≡◌, refl, sym}
use mathlib.Core.Bool.{true, false, ◌&&◌, and-false}
use mathlib.Core.List.{List, [], ◌∷◌, ◌++◌}
use native.Mathlib.Omega.{arith}
use lib.ListN.{length, drop, set, drop_of_length-le}
use lib.Seq.{drop-cons, append_snoc, get_or-set_same, drop-set-lt, lt-length-set}
use lib.Dec.{eqb}
use borrow.Author.Tests.{eqb-true, ne_eqb}
use Rattle.rules.proofs.Tests.{and_left, and_right}
use Rattle.console_text.specs.Decimal.{digits_within}

-- nothing owed; no room left; nothing put yet
pub none-owed : (room : ℕ) → digits_within room 0 0 ≡ []
unfolding digits_within
none-owed zero = refl
none-owed (suc room) = refl

pub none_left : (digits : List ℕ) {from : ℕ} (least n : ℕ) → from ≡ 0 → digits ≡ digits_within from least n ++ drop from digits
unfolding digits_within
none_left digits least n e = rw e

pub none-put : (digits : List ℕ) → length digits ≡ 10 → drop 10 digits ≡ []
none-put digits e = drop_of_length-le digits {i = 10} (omega arith)

pub both_zero : (n least : ℕ) → (eqb n 0 && eqb least 0) ≡ true → (n ≡ 0) × (least ≡ 0)
both_zero n least e =
    (eqb-true n 0 (and_left (eqb n 0) (eqb least 0) e), eqb-true least 0 (and_right (eqb n 0) (eqb least 0) e))

pub some-owed : (n least : ℕ) → 0 < least → (eqb n 0 && eqb least 0) ≡ false
some-owed n least h = rw (ne_eqb least 0 (λ e. omega arith)) (and-false (eqb n 0))

pub digit-more : (room least n : ℕ) → (eqb n 0 && eqb least 0) ≡ false →
    digits_within (suc room) least n ≡ digits_within room (least - 1) (n / 10) ++ ((48 + n % 10) ∷ [])
unfolding digits_within
digit-more room least n h = rw h

front-set : (digits : List ℕ) (i glyph : ℕ) → i < length digits → drop i (set digits i glyph) ≡ glyph ∷ drop (suc i) digits
front-set digits i glyph h =
    rw (drop-cons (set digits i glyph) i 0 (lt-length-set digits i glyph h), get_or-set_same digits i glyph 0 h, drop-set-lt (suc i) digits i glyph (omega arith))

-- one digit put
pub digit-put : (digits : List ℕ) (from least n : ℕ) → 0 < from → from ≤ length digits → (eqb n 0 && eqb least 0) ≡ false →
    digits_within (from - 1) (least - 1) (n / 10) ++ drop (from - 1) (set digits (from - 1) (48 + n % 10)) ≡ digits_within from least n ++ drop from digits
digit-put digits zero least n some within owed = absurd (omega arith)
digit-put digits (suc i) least n some within owed =
    let e : suc i - 1 ≡ i = omega arith in
    rw (e, front-set digits i (48 + n % 10) within, digit-more i least n owed)
    (sym (append_snoc (digits_within i (least - 1) (n / 10)) (48 + n % 10) (drop (suc i) digits)))
