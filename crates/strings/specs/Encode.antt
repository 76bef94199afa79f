-- A record as bytes: "groups of seven bits, low group first, top bit set on all but the last, shortest form only".
use Rattle.std.specs.Prelude.{ℕ, zero, suc, ◌+◌, ◌/◌, ◌%◌, List, [], ◌∷◌, ltb, if◌then◌else◌}
use Rattle.std.specs.List.{flat_map}
use Rattle.rules.specs.Basics.{flag}
use Rattle.rules.specs.declared.Call.TheVariants as call
use Rattle.strings.specs.Types.{Call, Order}
use Rattle.strings.specs.declared.order.Order.TheVariants.{Write, Read, Ticks, Tachometer, Pin, WriteWord, Pulse}
use Rattle.strings.specs.Record.{write_kind, read_kind, ticks_kind, tachometer_kind, pin_kind, write_word_kind, pulse_kind}

-- the bytes of a number, where there is room for so many
unfoldable pub bytes_within : ℕ → ℕ → List ℕ
bytes_within zero n = []
bytes_within (suc room) n = if ltb n 128 then n ∷ [] else (128 + n % 128) ∷ bytes_within room (n / 128)

-- a number of 32 bits, which five bytes hold
unfoldable pub number_bytes : ℕ → List ℕ
number_bytes n = bytes_within 5 n

unfoldable pub numbers_bytes : List ℕ → List ℕ
numbers_bytes numbers = flat_map number_bytes numbers

-- the numbers of a record: its kind, and what the kind asks for
abbrev pub numbers_of : Order → List ℕ
numbers_of (Write address value) = write_kind ∷ address ∷ value ∷ []
numbers_of (Read address) = read_kind ∷ address ∷ []
numbers_of (Ticks n) = ticks_kind ∷ n ∷ []
numbers_of (Tachometer channel count) = tachometer_kind ∷ channel ∷ count ∷ []
numbers_of (Pin level) = pin_kind ∷ level ∷ []
numbers_of (WriteWord address word) = write_word_kind ∷ address ∷ word ∷ []
numbers_of (Pulse channel) = pulse_kind ∷ channel ∷ []

unfoldable pub encoded : Order → List ℕ
encoded order = numbers_bytes (numbers_of order)

-- the record of a call. "0 low, 1 high"
unfoldable pub order_of : Call → Order
order_of (call.Write address byte) = Write address byte
order_of (call.Read address) = Read address
order_of (call.Ticks n) = Ticks n
order_of (call.Tachometer channel count) = Tachometer channel count
order_of (call.Pin high) = Pin (flag high)
order_of (call.WriteWord address word) = WriteWord address word
order_of (call.Pulse channel) = Pulse channel
