-- Digits read back: a number put as digits is read as that number, and 512ths put with nine decimals are their exact value.
use Prim.Native.Nat.{ℕ, zero, suc, ◌+◌, ◌-◌, ◌*◌, ◌/◌, ◌%◌, ◌^◌, ◌≤◌, ◌<◌}
use mathlib.Core.Path.{◌≡◌, refl, sym, ap, ◌∙◌}
use mathlib.Core.Bool.{true, false, ◌&&◌, and-false}
use mathlib.Core.List.{List, [], ◌∷◌, ◌++◌}
use native.Mathlib.Nat.{pow-suc, mul_assoc, zero-mul}
use native.Mathlib.Numerals.{add-one}
use native.Mathlib.Omega.{arith}
use lib.ListN.{length, length-append}
use lib.Dec.{eqb, ltb}
use borrow.Author.Tests.{lt-ltb, ltb-true, le-leb, eqb-true, ne_eqb}
use Rattle.std.specs.Prelude.{Ok}
use Rattle.console_text.specs.Number.{digit_of, are_digits, spelled_after, limited, number_after, in_base, prefixed, number_of}
use Rattle.console_text.specs.Decimal.{digits_within, digits_of, decimal_of}
use Rattle.rules.proofs.Tests.{by-test, and_left, and_right}
use Rattle.console_text.proofs.Spelling.{some-owed, digit-more}

-- ---- digits of any base
module _ (base : ℕ) where
  digits-join : (a b : List ℕ) → are_digits base a ≡ true → are_digits base b ≡ true → are_digits base (a ++ b) ≡ true
  unfolding are_digits
  digits-join [] b p q = q
  digits-join (byte ∷ a) b p q =
      rw (and_left (ltb (digit_of byte) base) (are_digits base a) p)
      (digits-join a b (and_right (ltb (digit_of byte) base) (are_digits base a) p) q)

  spelled-join : (n : ℕ) (a b : List ℕ) → spelled_after base n (a ++ b) ≡ spelled_after base (spelled_after base n a) b
  unfolding spelled_after
  spelled-join n [] b = refl
  spelled-join n (byte ∷ a) b = spelled-join (n * base + digit_of byte) a b

  some-digit : (a : List ℕ) (byte : ℕ) → in_base base (a ++ (byte ∷ [])) ≡ number_after base 0 (a ++ (byte ∷ []))
  unfolding in_base
  some-digit [] byte = refl
  some-digit (first ∷ a) byte = refl

-- ---- decimal digits
digit-back : (d : ℕ) → d < 10 → digit_of (48 + d) ≡ d
unfolding digit_of
digit-back d h = simp (le-leb 48 (48 + d) (omega arith), le-leb (48 + d) 57 (omega arith)) (omega arith)

one-digit : (d : ℕ) → d < 10 → are_digits 10 ((48 + d) ∷ []) ≡ true
unfolding are_digits
one-digit d h = rw (digit-back d h, lt-ltb d 10 h)

one-spelled : (n d : ℕ) → d < 10 → spelled_after 10 n ((48 + d) ∷ []) ≡ n * 10 + d
unfolding spelled_after
one-spelled n d h = rw (digit-back d h)

-- decimal digits have no prefix: neither `x` nor `X` is one
no-prefix : (text : List ℕ) → are_digits 10 text ≡ true → prefixed text ≡ false
unfolding are_digits prefixed digit_of
no-prefix [] e = refl
no-prefix (byte ∷ []) e = and-false (eqb byte 48)
no-prefix (byte ∷ next ∷ text) e =
    let rest = and_right (ltb (digit_of byte) 10) (ltb (digit_of next) 10 && are_digits 10 text) e in
    let small = ltb-true (digit_of next) 10 (and_left (ltb (digit_of next) 10) (are_digits 10 text) rest) in
    rw (ne_eqb next 120 (λ q. large 120 next q refl small), ne_eqb next 88 (λ q. large 88 next q refl small)) (and-false (eqb byte 48))
  where
    large : (letter byte : ℕ) → byte ≡ letter → digit_of letter ≡ 16 → digit_of byte < 10 → ⊥
    large letter byte q e h = omega (arith, ap digit_of q)

-- ---- the digits of a number, by whether another one comes
by_digits : (room least n : ℕ) (P : List ℕ → Type 0) →
    (n ≡ 0 → P []) → P (digits_within room (least - 1) (n / 10) ++ ((48 + n % 10) ∷ [])) → P (digits_within (suc room) least n)
unfolding digits_within
by_digits room least n P none some =
    by-test (eqb n 0 && eqb least 0) (λ t. rw t (none (eqb-true n 0 (and_left (eqb n 0) (eqb least 0) t)))) (λ f. rw f some)

all_digits : (room least n : ℕ) → are_digits 10 (digits_within room least n) ≡ true
unfolding digits_within are_digits
all_digits zero least n = refl
all_digits (suc room) least n =
    by_digits room least n (λ (l : List ℕ). are_digits 10 l ≡ true) (λ e. refl)
    (digits-join 10 (digits_within room (least - 1) (n / 10)) ((48 + n % 10) ∷ []) (all_digits room (least - 1) (n / 10)) (one-digit (n % 10) (omega arith)))

-- what they spell after m: m moved up by so many places, and n
Spells : ℕ → ℕ → List ℕ → Type 0
Spells m n digits = spelled_after 10 m digits ≡ m * 10 ^ length digits + n

spells-none : (m n : ℕ) → n ≡ 0 → Spells m n []
unfolding Spells spelled_after
spells-none m n e = omega arith

spells-more : (m n : ℕ) (digits : List ℕ) → Spells m (n / 10) digits → Spells m n (digits ++ ((48 + n % 10) ∷ []))
unfolding Spells
spells-more m n digits e =
    spelled-join 10 m digits ((48 + n % 10) ∷ []) ∙ rw e
    (one-spelled (m * 10 ^ length digits + n / 10) (n % 10) (omega arith)
    ∙ rw (length-append, add-one, pow-suc 10 (length digits), sym (mul_assoc m (10 ^ length digits) 10)) (omega arith))

spells : (m room least n : ℕ) → n < 10 ^ room → Spells m n (digits_within room least n)
unfolding digits_within
spells m zero least n h = spells-none m n (omega arith)
spells m (suc room) least n h =
    by_digits room least n (Spells m n) (spells-none m n)
    (spells-more m n _ (spells m room (least - 1) (n / 10) (omega (arith, pow-suc 10 room))))

-- a number that needs no more has exactly the least number of digits
exactly : (room least n : ℕ) → least ≤ room → n < 10 ^ least → length (digits_within room least n) ≡ least
unfolding digits_within
exactly zero least n h g = omega arith
exactly (suc room) zero n h g = let e : n ≡ 0 = omega arith in rw e
exactly (suc room) (suc least) n h g =
    let e : suc least - 1 ≡ least = omega arith in
    ap length (digit-more room (suc least) n (some-owed n (suc least) (omega arith)))
    ∙ rw (e, length-append, exactly room least (n / 10) (omega arith) (omega (arith, pow-suc 10 least))) (add-one least)

-- ---- the round trip
read_back : (room least n : ℕ) → 0 < least → n < 2 ^ 32 → n < 10 ^ suc room → number_of (digits_within (suc room) least n) ≡ Ok n
unfolding number_of number_after limited Spells
read_back room least n some small fits =
    let digits = digits_within (suc room) least n in
    let begins : in_base 10 digits ≡ number_after 10 0 digits =
    rw (digit-more room least n (some-owed n least some)) (some-digit 10 (digits_within room (least - 1) (n / 10)) (48 + n % 10)) in
    let value : spelled_after 10 0 digits ≡ n = spells 0 (suc room) least n fits ∙ rw zero-mul (omega arith) in
    rw (no-prefix digits (all_digits (suc room) least n), begins, all_digits (suc room) least n, value, lt-ltb n (2 ^ 32) small)

-- a number of 32 bits, put with at least one digit, is read as that number
pub round_trip : (least n : ℕ) → 0 < least → n < 2 ^ 32 → number_of (digits_of least n) ≡ Ok n
unfolding digits_of
round_trip least n some small = read_back 9 least n some small (omega arith)

-- ---- nine decimals
pub exactly-nine : (n : ℕ) → n < 10 ^ 9 → length (digits_of 9 n) ≡ 9
unfolding digits_of
exactly-nine n h = exactly 10 9 n (omega arith) h

-- the text without its point is the number of 10 ^ 9ths, and that is n 512ths
pub nine-value : (n : ℕ) → n < 2 ^ 32 → spelled_after 10 0 (decimal_of (n / 512) ++ digits_of 9 (n % 512 * 1953125)) * 512 ≡ n * 10 ^ 9
unfolding digits_of Spells
nine-value n h =
    let whole = n / 512 in
    let rest = n % 512 * 1953125 in
    let first : spelled_after 10 0 (digits_of 1 whole) ≡ whole = spells 0 10 1 whole (omega arith) ∙ rw zero-mul (omega arith) in
    let second : spelled_after 10 whole (digits_of 9 rest) ≡ whole * 10 ^ 9 + rest =
    rw (exactly-nine rest (omega arith)) at (spells whole 10 9 rest (omega arith)) in
    rw (spelled-join 10 0 (digits_of 1 whole) (digits_of 9 rest), first, second) (omega arith)
