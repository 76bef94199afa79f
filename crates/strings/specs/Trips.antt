-- Numbers and records convert both ways without loss: what is written reads back, with whatever follows it left over, and whatever is
-- read is what would be written, so that there is one string for each.
use Rattle.std.specs.Prelude.{ℕ, ◌+◌, ◌^◌, ◌<◌, ◌≡◌, Bool, true, ◌&&◌, List, [], ◌∷◌, ◌++◌, ltb, eqb, if◌then◌else◌}
use Rattle.rules.specs.Basics.{every}
use Rattle.rules.specs.declared.Call.TheVariants as call
use Rattle.strings.specs.Types.{Call, Group, Order}
use Rattle.strings.specs.Group.{More, Last, Refused}
use Rattle.strings.specs.declared.order.Order.TheVariants.{Write, Read, Ticks, Tachometer, Pin, WriteWord, Pulse}
use Rattle.strings.specs.Number.{string_ends, group_of}
use Rattle.strings.specs.Record.{no_record}
use Rattle.strings.specs.String.{Front, whole, refused, front_of}
use Rattle.strings.specs.Encode.{number_bytes, numbers_of, encoded, order_of}

-- ---- a number alone: what a string begins with, and the string after it

pub data Number : Type 0 where
  number : ℕ → List ℕ → Number
  no_number : ℕ → Number

abbrev pub grouped : Group → List ℕ → (ℕ → Number) → Number
grouped (More value) rest on = on value
grouped (Last n) rest on = number n rest
grouped (Refused refusal) rest on = no_number refusal

unfoldable pub number_from : ℕ → ℕ → List ℕ → Number
number_from groups value [] = no_number string_ends
number_from groups value (byte ∷ string) = grouped (group_of groups value byte) string (λ next. number_from (groups + 1) next string)

abbrev pub number_in : List ℕ → Number
number_in string = number_from 0 0 string

-- ---- what the numbers of a record make of it

-- every number of a list is below a limit: of 32 bits, and of a byte
abbrev pub below : ℕ → List ℕ → Bool
below limit numbers = every (λ n. ltb n limit) numbers

-- the record of numbers whatever they are: "13 .. for a write value or pin once the record is read", and for a word
abbrev pub front_by : Order → List ℕ → Front
front_by (Write address value) rest = if ltb value 256 then whole (call.Write address value) rest else refused no_record
front_by (Read address) rest = whole (call.Read address) rest
front_by (Ticks n) rest = whole (call.Ticks n) rest
front_by (Tachometer channel count) rest = whole (call.Tachometer channel count) rest
front_by (Pin level) rest = if ltb level 2 then whole (call.Pin (eqb level 1)) rest else refused no_record
front_by (WriteWord address word) rest = if ltb word 65536 then whole (call.WriteWord address word) rest else refused no_record
front_by (Pulse channel) rest = whole (call.Pulse channel) rest

-- what the types of a call hold by themselves: numbers of 32 bits, a byte, and a word
abbrev pub is_held : Call → Bool
is_held (call.Write address byte) = ltb address (2 ^ 32) && ltb byte 256
is_held (call.Read address) = ltb address (2 ^ 32)
is_held (call.Ticks n) = ltb n (2 ^ 32)
is_held (call.Tachometer channel count) = ltb channel (2 ^ 32) && ltb count (2 ^ 32)
is_held (call.Pin high) = true
is_held (call.WriteWord address word) = ltb address (2 ^ 32) && ltb word 65536
is_held (call.Pulse channel) = ltb channel (2 ^ 32)

-- ---- both ways

pub record RoundTrips : Type 0 where
  -- a number of 32 bits, and whatever follows it
  pub number-written : (n : ℕ) → n < 2 ^ 32 → (rest : List ℕ) → number_in (number_bytes n ++ rest) ≡ number n rest
  pub number_read : (string : List ℕ) → below 256 string ≡ true → (n : ℕ) (rest : List ℕ) → number_in string ≡ number n rest →
      (string ≡ number_bytes n ++ rest) × (n < 2 ^ 32)
  -- a record of any numbers, and the record of any call
  pub order-written : (order : Order) → below (2 ^ 32) (numbers_of order) ≡ true → (rest : List ℕ) → front_of (encoded order ++ rest) ≡ front_by order rest
  pub call-written : (call : Call) → is_held call ≡ true → (rest : List ℕ) → front_of (encoded (order_of call) ++ rest) ≡ whole call rest
  pub record-read : (string : List ℕ) → below 256 string ≡ true → (call : Call) (rest : List ℕ) → front_of string ≡ whole call rest →
      string ≡ encoded (order_of call) ++ rest
