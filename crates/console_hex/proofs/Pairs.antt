-- Bytes as digits in pairs: printed and read one by one.
use Prim.Native.Nat.{ℕ, zero, suc, ◌+◌, ◌*◌, ◌/◌, ◌%◌, ◌≤◌, ◌<◌}
use mathlib.Core.Path.{◌≡◌, refl, sym, ◌∙◌}
use mathlib.Core.Bool.{true, false, false≢true}
use Rattle.std.specs.Prelude.{◌==◌, Some, unwrap_or, map}
use Rattle.std.specs.Simd.{first_chunks}
use mathlib.Core.List.{List, [], ◌∷◌, ◌++◌}
use native.Mathlib.Numerals.{add-one}
use native.Mathlib.Omega.{arith}
use lib.ListN.{length, get_or, drop, drop_of_length-le}
use lib.Seq.{drop-cons}
use lib.Dec.{eqb, ltb}
use borrow.Author.Tests.{eqb-true}
use Rattle.rules.proofs.Tests.{by-test, and_left, and_right}
use Rattle.console_text.specs.Number.{digit_of, digit_in, are_digits}
use Rattle.console_hex.specs.Bytes.{hex_pair, hex_pairs, hex_of, are_pairs, pairs_in, is_dash, bytes_of, count_of, list_of}

-- ---- printed
module _ (bytes : List ℕ) (i : ℕ) where
  pub hex-next : i < length bytes → hex_pairs (drop i bytes) ≡ hex_pair (get_or bytes i 0) ++ hex_pairs (drop (i + 1) bytes)
  unfolding hex_pairs
  hex-next h = rw (add-one, drop-cons bytes i 0 h)

  pub hex-end : length bytes ≤ i → hex_pairs (drop i bytes) ≡ []
  unfolding hex_pairs
  hex-end h = rw (drop_of_length-le bytes h)

pub no_bytes : (bytes : List ℕ) → (length bytes == 0) ≡ true → hex_of bytes ≡ 45 ∷ []
unfolding hex_of
no_bytes [] e = refl
no_bytes (byte ∷ bytes) e = absurd (omega (arith, eqb-true _ _ e))

pub some_bytes : (bytes : List ℕ) → (length bytes == 0) ≡ false → hex_of bytes ≡ hex_pairs bytes
unfolding hex_of
some_bytes [] e = absurd (false≢true (sym e))
some_bytes (byte ∷ bytes) e = refl

-- ---- read
-- two digits a byte
pub pairs-count : (word : List ℕ) → length (pairs_in word) ≡ length word / 2
unfolding pairs_in
pairs-count [] = refl
pairs-count (digit ∷ []) = refl
pairs-count (high ∷ low ∷ word) = rw (pairs-count word) (omega arith)

-- a byte of each two digits
abbrev number_at : List ℕ → ℕ → ℕ
number_at pair i = unwrap_or (digit_in (get_or pair i 0)) 0

abbrev pub byte_in : List ℕ → ℕ
byte_in pair = number_at pair 0 * 16 + number_at pair 1

digit-number : (byte : ℕ) → ltb (digit_of byte) 16 ≡ true → unwrap_or (digit_in byte) 0 ≡ digit_of byte
unfolding digit_in
digit-number byte t = rw t

chunked : (k : ℕ) (word : List ℕ) → length word / 2 ≡ k → are_digits 16 word ≡ true → pairs_in word ≡ map byte_in (first_chunks 2 k word)
unfolding pairs_in are_digits
chunked zero [] h e = refl
chunked zero (digit ∷ []) h e = refl
chunked zero (high ∷ low ∷ word) h e = absurd (omega arith)
chunked (suc k) [] h e = absurd (omega arith)
chunked (suc k) (digit ∷ []) h e = absurd (omega arith)
chunked (suc k) (high ∷ low ∷ word) h e =
    let rest = and_right (ltb (digit_of high) 16) (are_digits 16 (low ∷ word)) e in
    rw
    (digit-number high (and_left (ltb (digit_of high) 16) (are_digits 16 (low ∷ word)) e), digit-number low (and_left (ltb (digit_of low) 16) (are_digits 16 word) rest))
    (rw (chunked k word (omega arith) (and_right (ltb (digit_of low) 16) (are_digits 16 word) rest)))

-- what a word spells: pairs, or nothing
module _ (word : List ℕ) where
  pub nothing-spelled : are_pairs word ≡ false → list_of (bytes_of word) ≡ []
  unfolding bytes_of
  nothing-spelled not-pairs = by-test (is_dash word) (λ t. rw (not-pairs, t)) (λ f. rw (not-pairs, f))

  pub pairs-spelled : are_pairs word ≡ true → list_of (bytes_of word) ≡ pairs_in word
  unfolding bytes_of
  pairs-spelled t = rw t

  pub chunks-spelled : are_pairs word ≡ true → list_of (bytes_of word) ≡ map byte_in (first_chunks 2 (length word / 2) word)
  unfolding are_pairs
  chunks-spelled t = pairs-spelled t ∙ chunked _ word refl (and_right (eqb (length word % 2) 0) (are_digits 16 word) t)

  pub pairs-counted : are_pairs word ≡ true → Some (length word / 2) ≡ count_of (bytes_of word)
  unfolding bytes_of
  pairs-counted t = rw (t, pairs-count word)

-- one more pair
module _ (pairs : List (List ℕ)) (i : ℕ) where
  pub pair-next : i < length pairs → map byte_in (drop i pairs) ≡ (byte_in (get_or pairs i []) ∷ []) ++ map byte_in (drop (i + 1) pairs)
  pair-next h = rw (add-one, drop-cons pairs i [] h)

  pub pairs-end : length pairs ≤ i → map byte_in (drop i pairs) ≡ []
  pairs-end h = rw (drop_of_length-le pairs h)

-- a word has two digits for each byte that it spells
pub spelled-half : (word : List ℕ) → 2 * length (list_of (bytes_of word)) ≤ length word
spelled-half word =
    by-test (are_pairs word) (λ t. rw (pairs-spelled word t, pairs-count word) (omega arith)) (λ f. rw (nothing-spelled word f) (omega arith))

-- ---- how long bytes are as text: two digits for each, and one byte where there are none
pairs-length : (bytes : List ℕ) → length (hex_pairs bytes) ≡ 2 * length bytes
unfolding hex_pairs
pairs-length [] = refl
pairs-length (byte ∷ bytes) = omega (arith, pairs-length bytes)

pub hex-length : (most : ℕ) → 1 ≤ most → (bytes : List ℕ) → length bytes ≤ most → length (hex_of bytes) ≤ 2 * most
unfolding hex_of
hex-length most some [] h = omega arith
hex-length most some (byte ∷ bytes) h = omega (arith, pairs-length (byte ∷ bytes))
