-- How many bytes a record has at most.
use Prim.Native.Nat.{ℕ, zero, suc, ◌*◌, ◌/◌, ◌≤◌}
use mathlib.Core.List.{List, [], ◌∷◌}
use native.Mathlib.Omega.{arith}
use lib.Dec.{ltb}
use lib.ListN.{length, length-append}
use Rattle.rules.proofs.Tests.{by-test}
use Rattle.strings.specs.declared.order.Order.{Order}
use Rattle.strings.specs.declared.order.Order.TheVariants.{Write, Read, Ticks, Tachometer, Pin, WriteWord, Pulse}
use Rattle.strings.specs.Encode.{bytes_within, number_bytes, numbers_bytes, encoded}

within-length : (room n : ℕ) → length (bytes_within room n) ≤ room
unfolding bytes_within
within-length zero n = omega arith
within-length (suc room) n =
    by-test (ltb n 128) (λ t. rw t (omega arith)) (λ f. rw f (omega (arith, within-length room (n / 128))))

numbers-length : (numbers : List ℕ) → length (numbers_bytes numbers) ≤ 5 * length numbers
unfolding numbers_bytes number_bytes
numbers-length [] = omega arith
numbers-length (n ∷ numbers) = rw length-append (omega (arith, within-length 5 n, numbers-length numbers))

-- a kind of one byte, and two numbers of five
pub record-length : (order : Order) → length (encoded order) ≤ 11
unfolding encoded numbers_bytes number_bytes bytes_within
record-length (Write address value) = omega (arith, numbers-length (address ∷ value ∷ []))
record-length (Read address) = omega (arith, numbers-length (address ∷ []))
record-length (Ticks n) = omega (arith, numbers-length (n ∷ []))
record-length (Tachometer channel count) = omega (arith, numbers-length (channel ∷ count ∷ []))
record-length (Pin level) = omega (arith, numbers-length (level ∷ []))
record-length (WriteWord address word) = omega (arith, numbers-length (address ∷ word ∷ []))
record-length (Pulse channel) = omega (arith, numbers-length (channel ∷ []))
