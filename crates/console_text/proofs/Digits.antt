-- Digits read one by one, with a number that has passed the limit held at it.
use Prim.Native.Nat.{ℕ, ◌+◌, ◌*◌, ◌≤◌, ◌<◌, min}
use mathlib.Core.Path.{◌≡◌, refl, sym, ap, ◌∙◌}
use mathlib.Core.Bool.{true, false, and-false, false≢true}
use mathlib.Core.List.{List, [], ◌∷◌}
use native.Mathlib.Nat.{le_refl, le_trans, le-add_right, le-mul_of_pos_right}
use native.Mathlib.Numerals.{add-one}
use native.Mathlib.Decide.{dec_lt}
use native.Mathlib.Omega.{arith}
use lib.ListN.{length, get_or, drop, drop_of_length-le}
use lib.Seq.{drop-cons}
use lib.Dec.{ltb, eqb}
use borrow.Author.Tests.{lt-ltb, le-ltb, eqb-true, ltb-false}
use Rattle.std.specs.Prelude.{◌==◌, Option, Some, None, SomeIff, Result, Ok, Err, OkIff, MatchResult, IsErrAnd}
use Rattle.std.specs.Char.{digit_value}
use Rattle.std.proofs.lemmas.Bool.Decides.{nat_tests}
use Rattle.rules.proofs.Tests.{by-test}
use Rattle.console_text.specs.declared.number.NumberError.{NumberError}
use Rattle.console_text.specs.declared.number.NumberError.TheVariants.{TooLarge, NotNumber}
use Rattle.console_text.specs.Number.{limit, prefixed, digit_of, digit_in, are_digits, spelled_after, limited, number_after, in_base}

-- ---- a digit, as the library reads one
digit-value : (byte : ℕ) → digit_value byte < 16 → digit_of byte ≡ digit_value byte
unfolding digit_of
digit-value byte h = grind (arith, nat_tests)

no-digit : (byte : ℕ) → (digit_value byte < 16 → ⊥) → digit_of byte ≡ 16
unfolding digit_of
no-digit byte h = grind (arith, nat_tests)

pub digit-told : (byte : ℕ) (r : Option ℕ) → SomeIff r (digit_value byte < 16) (digit_value byte) → r ≡ digit_in byte
unfolding digit_in
digit-told byte None h = rw (no-digit byte h)
digit-told byte (Some d) h = rw (digit-value byte h.0, lt-ltb (digit_value byte) 16 h.0) (ap Some h.1)

-- and what it is, where it is one
module _ (byte : ℕ) where
  pub digit-some : {d : ℕ} → digit_in byte ≡ Some d → digit_of byte ≡ d
  unfolding digit_in
  digit-some e = by-test (ltb (digit_of byte) 16) (λ t. let s = rw t at e in cc) (λ f. let s = rw f at e in cc)

  pub digit-none : digit_in byte ≡ None → 16 ≤ digit_of byte
  unfolding digit_in
  digit-none e = by-test (ltb (digit_of byte) 16) (λ t. let s = rw t at e in cc) (λ f. ltb-false (digit_of byte) 16 f)

module _ (base : ℕ) where
  -- one digit read
  digit-read : (n byte : ℕ) (text : List ℕ) → digit_of byte < base →
      number_after base n (byte ∷ text) ≡ number_after base (n * base + digit_of byte) text
  unfolding number_after are_digits spelled_after
  digit-read n byte text h = rw (lt-ltb _ _ h)

  not_digit : (n byte : ℕ) (text : List ℕ) → base ≤ digit_of byte → number_after base n (byte ∷ text) ≡ Err NotNumber
  unfolding number_after are_digits
  not_digit n byte text h = rw (le-ltb _ _ h)

  all_read : (n : ℕ) → number_after base n [] ≡ limited n
  unfolding number_after are_digits spelled_after
  all_read n = refl

  module _ (some : 0 < base) where
    grows : (n : ℕ) (text : List ℕ) → n ≤ spelled_after base n text
    unfolding spelled_after
    grows n [] = le_refl n
    grows n (byte ∷ text) =
        le_trans (le-mul_of_pos_right n some)
        (le_trans (le-add_right (n * base) (digit_of byte)) (grows (n * base + digit_of byte) text))

    large : (n : ℕ) (text : List ℕ) → limit ≤ n → limited (spelled_after base n text) ≡ Err TooLarge
    unfolding limited
    large n text h = rw (le-ltb _ _ (le_trans h (grows n text)))

    -- a number from the limit on may be held at it
    held : (n : ℕ) (text : List ℕ) → number_after base n text ≡ number_after base (min n limit) text
    unfolding number_after
    held n text =
        elim (dec_lt n limit) [
          | yes l ↦ let e : min n limit ≡ n = omega arith in rw e
          | no g ↦ let e : min n limit ≡ limit = omega arith in rw (e, large n text (omega arith), large limit text (le_refl limit))
        ]

  -- a text without a digit; one with a byte
  pub no-digits : (text : List ℕ) → (length text == 0) ≡ true → Err NotNumber ≡ in_base base text
  unfolding in_base
  no-digits [] e = refl
  no-digits (byte ∷ text) e = absurd (omega (arith, eqb-true _ _ e))

  pub begins : (text : List ℕ) → (length text == 0) ≡ false → number_after base 0 text ≡ in_base base text
  unfolding in_base
  begins [] e = absurd (false≢true (sym e))
  begins (byte ∷ text) e = refl

  -- the same of a text from an index on
  module _ (text : List ℕ) (i : ℕ) where
    pub goes_on : 0 < base → (n : ℕ) {d : ℕ} → i < length text → digit_of (get_or text i 0) ≡ d → d < base →
        number_after base n (drop i text) ≡ number_after base (min (n * base + d) limit) (drop (i + 1) text)
    goes_on some n h e d = rw (add-one, drop-cons text i 0 h, ← e) (digit-read n _ _ (rw (← e) at d) ∙ held some _ _)

    pub breaks-off : (n : ℕ) → i < length text → base ≤ digit_of (get_or text i 0) → number_after base n (drop i text) ≡ Err NotNumber
    breaks-off n h d = rw (drop-cons text i 0 h) (not_digit n _ _ d)

    pub ends : (n : ℕ) → length text ≤ i → number_after base n (drop i text) ≡ limited n
    ends n h = rw (drop_of_length-le text h) (all_read n)

-- a number that was read, in 32 bits or not
pub limited-told : (n : ℕ) {E : Type 0} {post : E → NumberError → Type 0} (whole : Result ℕ E) (r : Result ℕ NumberError) → OkIff whole (n < limit) n →
    MatchResult whole (λ x. r ≡ Ok x) (λ e. IsErrAnd r (post e)) → ((e : E) (why : NumberError) → post e why → why ≡ TooLarge) → limited n ≡ r
unfolding limited
limited-told n (Ok x) r told e why = rw (lt-ltb n limit told.0) (ap Ok (sym told.1) ∙ sym e)
limited-told n (Err x) (Ok y) told e why = elim e [ ]
limited-told n (Err x) (Err y) told e why = rw (le-ltb n limit (omega arith)) (ap Err (sym (why x y e)))

-- a prefix has two bytes
pub too_short : (text : List ℕ) → length text < 2 → false ≡ prefixed text
unfolding prefixed
too_short [] h = refl
too_short (byte ∷ []) h = sym (and-false (eqb byte 48))
too_short (byte ∷ next ∷ text) h = absurd (omega arith)

pub prefix-long : (text : List ℕ) → prefixed text ≡ true → 2 ≤ length text
prefix-long text e =
    elim (dec_lt (length text) 2) [
      | yes l ↦ absurd (false≢true (too_short text l ∙ e))
      | no g ↦ omega arith
    ]
