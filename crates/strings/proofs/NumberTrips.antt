-- A number is read back as it was written, and only the shortest form is read.
use Prim.Native.Nat.{ℕ, zero, suc, ◌+◌, ◌*◌, ◌/◌, ◌%◌, ◌^◌, ◌<◌, ◌≤◌}
use mathlib.Core.Path.{◌≡◌, refl, sym, ap, ◌∙◌, subst}
use mathlib.Core.Bool.{Bool, true, false, ◌&&◌, false≢true}
use mathlib.Core.List.{List, [], ◌∷◌, ◌++◌}
use native.Mathlib.Omega.{arith}
use native.Mathlib.Nat.{add-mul, mul_assoc}
use lib.Dec.{ltb, eqb}
use lib.Pow.{pow-add, shr_lt}
use borrow.Author.Tests.{lt-ltb, le-ltb, eq-eqb, ltb-true, ltb-false, eqb-false}
use Rattle.rules.proofs.Tests.{by-test, choice, and_left, and_right}
use Rattle.strings.specs.Types.{Group}
use Rattle.strings.specs.Group.{More, Last, Refused}
use Rattle.strings.specs.Number.{group_of}
use Rattle.strings.specs.Encode.{bytes_within, number_bytes}
use Rattle.strings.proofs.Groups.{last-group, more-group, GroupKept, group-kept}
use Rattle.strings.specs.Trips.{Number, number, no_number, grouped, number_from, number_in, below}

-- ---- a group

-- seven bits more stand above those before
higher : (k acc low high : ℕ) → acc + low * 2 ^ (7 * k) + high * 2 ^ (7 * (k + 1)) ≡ acc + (low + high * 128) * 2 ^ (7 * k)
higher k acc low high =
    let e : 7 * (k + 1) ≡ 7 + 7 * k = omega arith in
    let p : 2 ^ (7 + 7 * k) ≡ 128 * 2 ^ (7 * k) = pow-add 2 7 (7 * k) in
    rw (e, p) (over (2 ^ (7 * k)))
  where
    over : (p : ℕ) → acc + low * p + high * (128 * p) ≡ acc + (low + high * 128) * p
    over p =
        let a : high * (128 * p) ≡ high * 128 * p = sym (mul_assoc high 128 p) in
        rw (a, add-mul low (high * 128) p) (omega arith)

module _ (k acc byte : ℕ) (string : List ℕ) where
  read_more : (next : ℕ) → group_of k acc byte ≡ More next → number_from k acc (byte ∷ string) ≡ number_from (k + 1) next string
  unfolding number_from
  read_more next e = rw e refl

  read-last : (n : ℕ) → group_of k acc byte ≡ Last n → number_from k acc (byte ∷ string) ≡ number n string
  unfolding number_from
  read-last n e = rw e refl

module _ (r n : ℕ) where
  one_byte : n < 128 → bytes_within (suc r) n ≡ n ∷ []
  unfolding bytes_within
  one_byte h = rw (lt-ltb n 128 h) refl

  byte_more : 128 ≤ n → bytes_within (suc r) n ≡ (128 + n % 128) ∷ bytes_within r (n / 128)
  unfolding bytes_within
  byte_more h = rw (le-ltb n 128 h) refl

-- ---- written, and read back: a number of which k groups have been read, with at most r more after this one

written : (r k acc n : ℕ) → k + r ≡ 4 → n < 2 ^ (4 + 7 * r) → (0 < k → 0 < n) → (rest : List ℕ) →
    number_from k acc (bytes_within (suc r) n ++ rest) ≡ number (acc + n * 2 ^ (7 * k)) rest
written zero k acc n is small first rest =
    let low : n < 16 = small in
    rw (one_byte 0 n (omega arith)) (read-last k acc n rest _ (last-group k acc n (omega arith) (λ _. low) first))
written (suc r) k acc n is small first rest =
    by-test (ltb n 128) (λ h. last (ltb-true n 128 h)) (λ h. more (ltb-false n 128 h) (written r (k + 1) (acc + n % 128 * 2 ^ (7 * k)) (n / 128) (omega arith) fewer (λ _. omega (arith, ltb-false n 128 h)) rest))
  where
    fewer : n / 128 < 2 ^ (4 + 7 * r)
    fewer =
        let e : 4 + 7 * suc r ≡ 4 + 7 * r + 7 = omega arith in
        shr_lt (4 + 7 * r) 7 (subst (λ (x : ℕ). n < 2 ^ x) e small)

    last : n < 128 → number_from k acc (bytes_within (suc (suc r)) n ++ rest) ≡ number (acc + n * 2 ^ (7 * k)) rest
    last h = rw (one_byte (suc r) n h) (read-last k acc n rest _ (last-group k acc n h (λ f. absurd (omega arith)) first))

    more : 128 ≤ n → number_from (k + 1) (acc + n % 128 * 2 ^ (7 * k)) (bytes_within (suc r) (n / 128) ++ rest) ≡
        number (acc + n % 128 * 2 ^ (7 * k) + n / 128 * 2 ^ (7 * (k + 1))) rest →
        number_from k acc (bytes_within (suc (suc r)) n ++ rest) ≡ number (acc + n * 2 ^ (7 * k)) rest
    more h same =
        let m : (128 + n % 128) % 128 ≡ n % 128 = omega arith in
        let whole : n % 128 + n / 128 * 128 ≡ n = omega arith in
        let g : group_of k acc (128 + n % 128) ≡ More (acc + n % 128 * 2 ^ (7 * k)) =
        more-group k acc (128 + n % 128) (omega arith) (λ f. omega arith) ∙ ap (λ x. More (acc + x * 2 ^ (7 * k))) m in
        rw (byte_more (suc r) n h)
        (read_more k acc _ _ _ g ∙ same ∙ ap (λ x. number x rest) (higher k acc (n % 128) (n / 128) ∙ ap (λ x. acc + x * 2 ^ (7 * k)) whole))

pub number-written : (n : ℕ) → n < 2 ^ 32 → (rest : List ℕ) → number_in (number_bytes n ++ rest) ≡ number n rest
unfolding number_bytes
number-written n small rest =
    let e : 0 + n * 2 ^ (7 * 0) ≡ n = omega arith in
    written 4 0 0 n refl small (λ z. absurd (omega arith)) rest ∙ ap (λ x. number x rest) e

-- ---- read, and what was read is what is written

-- what a byte was, by what it made of a number
abbrev Seen : ℕ → ℕ → ℕ → Group → Type 0
Seen k acc byte (More value) = (128 ≤ byte) × (k ≡ 4 → ⊥) × (value ≡ acc + byte % 128 * 2 ^ (7 * k))
Seen k acc byte (Last n) = (byte < 128) × (0 < k → 0 < byte) × (n ≡ acc + byte * 2 ^ (7 * k))
Seen k acc byte (Refused refusal) = Unit {0}

seen : (k acc byte : ℕ) → Seen k acc byte (group_of k acc byte)
unfolding group_of
seen k acc byte =
    choice P (eqb k 4 && ltb 15 byte) _ _ (λ _. tt) (λ fifth. choice P (ltb 0 k && eqb byte 0) _ _ (λ _. tt) (λ first. choice P (ltb byte 128) _ _
    (λ h. let low = ltb-true byte 128 h in let m : byte % 128 ≡ byte = omega arith in
    (low, (λ some. not-zero (eqb-false byte 0 (rw (lt-ltb 0 k some) at first))), rw m refl))
    (λ h. let high = ltb-false byte 128 h in (high, (λ is. below-16 high (rw (eq-eqb k 4 is) at fifth)), refl))))
  where
    P : Group → Type 0
    P = Seen k acc byte

    not-zero : (byte ≡ 0 → ⊥) → 0 < byte
    not-zero h = omega (arith, h)

    below-16 : 128 ≤ byte → ltb 15 byte ≡ false → ⊥
    below-16 high h = omega (arith, ltb-false 15 byte h)

below-first : (byte : ℕ) (string : List ℕ) → below 256 (byte ∷ string) ≡ true → byte < 256
below-first byte string h = ltb-true byte 256 (and_left (ltb byte 256) (below 256 string) h)

below_rest : (byte : ℕ) (string : List ℕ) → below 256 (byte ∷ string) ≡ true → below 256 string ≡ true
below_rest byte string h = and_right (ltb byte 256) (below 256 string) h

abbrev is_number : Number → Bool
is_number (number n rest) = true
is_number (no_number refusal) = false

abbrev value_of : Number → ℕ
value_of (number n rest) = n
value_of (no_number refusal) = 0

abbrev rest_of : Number → List ℕ
rest_of (number n rest) = rest
rest_of (no_number refusal) = []

-- the bytes of a number, after k groups worth acc
record Spelled (r k acc : ℕ) (string : List ℕ) (n : ℕ) (rest : List ℕ) : Type 0 where
  high : ℕ
  some : 0 < k → 0 < high
  worth : n ≡ acc + high * 2 ^ (7 * k)
  bytes : string ≡ bytes_within (suc r) high ++ rest

module _ (n : ℕ) (rest : List ℕ) where
  abbrev Reads : ℕ → ℕ → ℕ → List ℕ → Type 0
  Reads r k acc string = k + r ≡ 4 → below 256 string ≡ true → number_from k acc string ≡ number n rest → Spelled r k acc string n rest

  module _ (k acc byte : ℕ) (string : List ℕ) where
    last-read : (r v : ℕ) → Seen k acc byte (Last v) → number v string ≡ number n rest → Spelled r k acc (byte ∷ string) n rest
    last-read r v (low, some, is) e =
        record {
          high = byte;
          some = some;
          worth = sym (ap value_of e) ∙ is;
          bytes = rw (one_byte r byte low) (ap (λ x. byte ∷ rest_of x) e);
        }

    more-read : (r v : ℕ) → byte < 256 → Seen k acc byte (More v) → Spelled r (k + 1) v string n rest → Spelled (suc r) k acc (byte ∷ string) n rest
    more-read r v fits (high, few, is) s =
        let m = s.some (omega arith) in
        let h = byte % 128 + s.high * 128 in
        let low : h % 128 ≡ byte % 128 = omega arith in
        let above : h / 128 ≡ s.high = omega arith in
        let top : 128 + byte % 128 ≡ byte = omega arith in
        record {
          high = h;
          some = λ _. omega (arith, m);
          worth = s.worth ∙ ap (λ x. x + s.high * 2 ^ (7 * (k + 1))) is ∙ higher k acc (byte % 128) s.high;
          bytes = rw (byte_more (suc r) h (omega (arith, m)), low, above, top) (ap (λ x. byte ∷ x) s.bytes);
        }

  read : (r k acc : ℕ) (string : List ℕ) → Reads r k acc string
  unfolding number_from
  read r k acc [] is small e = absurd (false≢true (ap is_number e))
  read zero k acc (byte ∷ string) is small e = by (group_of k acc byte) (seen k acc byte) e
    where
      by : (g : Group) → Seen k acc byte g → grouped g string (λ v. number_from (k + 1) v string) ≡ number n rest → Spelled 0 k acc (byte ∷ string) n rest
      by (More v) (high, few, v-is) h = absurd (few (omega arith))
      by (Last v) s h = last-read k acc byte string 0 v s h
      by (Refused refusal) s h = absurd (false≢true (ap is_number h))
  read (suc r) k acc (byte ∷ string) is small e = by (λ v. read r (k + 1) v string (omega arith) (below_rest byte string small)) (group_of k acc byte) (seen k acc byte) e
    where
      by : ((v : ℕ) → number_from (k + 1) v string ≡ number n rest → Spelled r (k + 1) v string n rest) →
          (g : Group) → Seen k acc byte g → grouped g string (λ v. number_from (k + 1) v string) ≡ number n rest → Spelled (suc r) k acc (byte ∷ string) n rest
      by on (More v) s h = more-read k acc byte string r v (below-first byte string small) s (on v h)
      by on (Last v) s h = last-read k acc byte string (suc r) v s h
      by on (Refused refusal) s h = absurd (false≢true (ap is_number h))

  -- a number has 32 bits
  fits : (k acc : ℕ) (string : List ℕ) → k ≤ 4 → acc < 2 ^ (7 * k) → number_from k acc string ≡ number n rest → n < 2 ^ 32
  unfolding number_from
  fits k acc [] few low e = absurd (false≢true (ap is_number e))
  fits k acc (byte ∷ string) few low e = by (λ v f l h. fits (k + 1) v string f l h) (group_of k acc byte) (group-kept k acc byte few low) e
    where
      by : ((v : ℕ) → k + 1 ≤ 4 → v < 2 ^ (7 * (k + 1)) → number_from (k + 1) v string ≡ number n rest → n < 2 ^ 32) →
          (g : Group) → GroupKept k g → grouped g string (λ v. number_from (k + 1) v string) ≡ number n rest → n < 2 ^ 32
      by on (More v) (fewer, lower) h = on v (omega (arith, fewer)) lower h
      by on (Last v) small h = subst (λ x. x < 2 ^ 32) (ap value_of h) small
      by on (Refused refusal) small h = absurd (false≢true (ap is_number h))

pub number_read : (string : List ℕ) → below 256 string ≡ true → (n : ℕ) (rest : List ℕ) → number_in string ≡ number n rest →
    (string ≡ number_bytes n ++ rest) × (n < 2 ^ 32)
unfolding number_bytes
number_read string small n rest e =
    let s = read n rest 4 0 0 string refl small e in
    let same : s.high ≡ n = omega (arith, s.worth) in
    (s.bytes ∙ ap (λ x. bytes_within 5 x ++ rest) same, fits n rest 0 0 string (omega arith) (omega arith) e)
