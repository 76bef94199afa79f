-- The groups of a number, put from the first to the last.
use Prim.Native.Nat.{ℕ, zero, suc, ◌+◌, ◌*◌, ◌/◌, ◌%◌, ◌^◌, ◌≤◌, ◌<◌}
use mathlib.Core.Path.{◌≡◌, ap}
use mathlib.Core.List.{List, [], ◌∷◌, ◌++◌}
use native.Mathlib.Omega.{arith}
use lib.Dec.{ltb}
use lib.ListN.{length, drop, get_or, drop_of_length-le}
use lib.Pow.{shr_lt}
use lib.Seq.{drop-cons}
use native.Mathlib.Numerals.{add-one}
use borrow.Author.Tests.{lt-ltb, le-ltb}
use Rattle.rules.proofs.Tests.{by-test}
use Rattle.strings.specs.Encode.{bytes_within, number_bytes, numbers_bytes}

-- room for one byte more changes nothing, where there is room for all
room-more : (room n : ℕ) → n < 2 ^ (7 * (room + 1)) → bytes_within (suc room) n ≡ bytes_within (suc (suc room)) n
unfolding bytes_within
room-more zero n h = rw (lt-ltb n 128 h)
room-more (suc room) n h =
    by-test (ltb n 128) (λ t. rw t) (λ f. rw f (ap (λ bytes. (128 + n % 128) ∷ bytes) (room-more room (n / 128) (shr_lt (7 * (room + 1)) 7 fits))))
  where
    fits : n < 2 ^ (7 * (room + 1) + 7)
    fits = let e : 7 * (suc room + 1) ≡ 7 * (room + 1) + 7 = omega arith in rw e at h

module _ (n : ℕ) where
  pub last-group : n < 128 → number_bytes n ≡ n ∷ []
  unfolding number_bytes bytes_within
  last-group h = rw (lt-ltb n 128 h)

  pub group-first : n < 2 ^ 32 → 128 ≤ n → number_bytes n ≡ (128 + n % 128) ∷ [] ++ number_bytes (n / 128)
  unfolding number_bytes bytes_within
  group-first small high = rw (le-ltb n 128 high) (ap (λ bytes. (128 + n % 128) ∷ bytes) (room-more 3 (n / 128) (omega arith)))

-- the numbers from an index on
module _ (numbers : List ℕ) (i : ℕ) where
  pub number-first : i < length numbers → numbers_bytes (drop i numbers) ≡ number_bytes (get_or numbers i 0) ++ numbers_bytes (drop (i + 1) numbers)
  unfolding numbers_bytes
  number-first h = rw (add-one, drop-cons numbers i 0 h)

  pub none-left : length numbers ≤ i → numbers_bytes (drop i numbers) ≡ []
  unfolding numbers_bytes
  none-left h = rw (drop_of_length-le numbers h)
