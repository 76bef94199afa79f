-- A call that a line asks for by its kind and its first two numbers: the call, and its record.
use Rattle.std.specs.Prelude.{ℕ, eqb}
use Rattle.rules.specs.declared.Call.{Call}
use Rattle.rules.specs.declared.Call.TheVariants as call
use Rattle.strings.specs.declared.order.Order.{Order}
use Rattle.strings.specs.declared.order.Order.TheVariants as order
use Rattle.lent.specs.Values.{byte_of, word_of}
use Rattle.strings.specs.declared.kind.Kind.{Kind}
use Rattle.strings.specs.declared.kind.Kind.TheVariants.{Write, Read, Ticks, Tachometer, Pin, WriteWord, Pulse}

-- "`write ADDRESS BYTE`" and so on; "`pin LEVEL` (0 low, 1 high)"
abbrev pub call_by : ℕ → ℕ → Kind → Call
call_by address value Write = call.Write address (byte_of value)
call_by address second Read = call.Read address
call_by n second Ticks = call.Ticks n
call_by channel count Tachometer = call.Tachometer channel count
call_by level second Pin = call.Pin (eqb level 1)
call_by address word WriteWord = call.WriteWord address (word_of word)
call_by channel second Pulse = call.Pulse channel

-- "every number may go to 4,294,967,295, so that a record which will be refused can be made too"
abbrev pub order_by : ℕ → ℕ → Kind → Order
order_by address value Write = order.Write address value
order_by address second Read = order.Read address
order_by n second Ticks = order.Ticks n
order_by channel count Tachometer = order.Tachometer channel count
order_by level second Pin = order.Pin level
order_by address word WriteWord = order.WriteWord address word
order_by channel second Pulse = order.Pulse channel
