-- Bytes read back: bytes put as text are read as those bytes.
use Prim.Native.Nat.{ℕ, ◌+◌, ◌*◌, ◌/◌, ◌%◌, ◌<◌}
use mathlib.Core.Path.{◌≡◌, refl}
use mathlib.Core.Bool.{true}
use mathlib.Core.List.{List, [], ◌∷◌}
use native.Mathlib.Decide.{dec_lt}
use native.Mathlib.Omega.{arith}
use lib.ListN.{length}
use lib.Dec.{ltb}
use borrow.Author.Tests.{lt-ltb, le-ltb, ltb-true, le-leb, lt-leb, eq-eqb}
use Rattle.rules.specs.Basics.{every}
use Rattle.rules.proofs.Tests.{and_left, and_right}
use Rattle.console_text.specs.Number.{digit_of, are_digits}
use Rattle.console_hex.specs.Bytes.{hex_digit, hex_pairs, hex_of, are_pairs, pairs_in, is_dash, bytes_of}
use Rattle.std.specs.Prelude.{Some}

digit-back : (n : ℕ) → n < 16 → digit_of (hex_digit n) ≡ n
unfolding hex_digit digit_of
digit-back n h =
    elim (dec_lt n 10) [
      | yes l ↦ simp (lt-ltb n 10 l, le-leb 48 (48 + n) (omega arith), le-leb (48 + n) 57 (omega arith)) (omega arith)
      | no g ↦
          simp
          (le-ltb n 10 (omega arith), le-leb 48 (87 + n) (omega arith), lt-leb (87 + n) 57 (omega arith), le-leb 65 (87 + n) (omega arith), lt-leb (87 + n) 70 (omega arith), le-leb 97 (87 + n) (omega arith), le-leb (87 + n) 102 (omega arith))
          (omega arith)
    ]

below-first : (byte : ℕ) (list : List ℕ) → every (λ b. ltb b 256) (byte ∷ list) ≡ true → (byte < 256) × (every (λ b. ltb b 256) list ≡ true)
below-first byte list e =
    (ltb-true byte 256 (and_left (ltb byte 256) (every (λ b. ltb b 256) list) e), and_right (ltb byte 256) (every (λ b. ltb b 256) list) e)

pairs-digits : (list : List ℕ) → every (λ b. ltb b 256) list ≡ true → are_digits 16 (hex_pairs list) ≡ true
unfolding hex_pairs are_digits
pairs-digits [] e = refl
pairs-digits (byte ∷ list) e =
    let small = below-first byte list e in
    let high : byte / 16 < 16 = omega (arith, small.0) in
    let low : byte % 16 < 16 = omega arith in
    rw (digit-back (byte / 16) high, digit-back (byte % 16) low, lt-ltb (byte / 16) 16 high, lt-ltb (byte % 16) 16 low) (pairs-digits list small.1)

pairs-even : (list : List ℕ) → length (hex_pairs list) % 2 ≡ 0
unfolding hex_pairs
pairs-even [] = refl
pairs-even (byte ∷ list) = omega (arith, pairs-even list)

pairs-back : (list : List ℕ) → every (λ b. ltb b 256) list ≡ true → pairs_in (hex_pairs list) ≡ list
unfolding hex_pairs pairs_in
pairs-back [] e = refl
pairs-back (byte ∷ list) e =
    let small = below-first byte list e in
    let whole : byte / 16 * 16 + byte % 16 ≡ byte = omega arith in
    rw (digit-back (byte / 16) (omega (arith, small.0)), digit-back (byte % 16) (omega arith), whole, pairs-back list small.1)

-- any list of bytes
pub bytes_back : (list : List ℕ) → every (λ b. ltb b 256) list ≡ true → bytes_of (hex_of list) ≡ Some list
unfolding bytes_of hex_of are_pairs is_dash
bytes_back [] e = refl
bytes_back (byte ∷ list) e =
    rw (eq-eqb (length (hex_pairs (byte ∷ list)) % 2) 0 (pairs-even (byte ∷ list)), pairs-digits (byte ∷ list) e, pairs-back (byte ∷ list) e)
