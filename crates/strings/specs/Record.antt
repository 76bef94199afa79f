-- A record of an order string, byte by byte: "Kinds: 0 write (address, value), 1 read (address), 2 ticks (n), 3 tachometer (channel,
-- count), 4 pin (0 low, 1 high)", since K6 "kind 5 (even address, word)", and since K7 "kind 6 (channel)".
use Rattle.std.specs.Prelude.{ℕ, ◌+◌, ltb, eqb, if◌then◌else◌}
use Rattle.rules.specs.declared.Call.TheVariants.{Write, Read, Ticks, Tachometer, Pin, WriteWord, Pulse}
use Rattle.strings.specs.Types.{Group, Stage, Kind, WriteAddress, WriteByte, ReadAddress, TickCount, ResultChannel, ResultCount, PinLevel, WordAddress, WordValue, PulseChannel, Partial, Step}
use Rattle.strings.specs.Group as group
use Rattle.strings.specs.Step.{More, Whole, Refused}
use Rattle.strings.specs.Number.{group_of}

-- "13 for an unknown kind as soon as it is read, for a write value or pin once the record is read"; since K6 "13 also covers a word
-- above 65,535"
abbrev pub no_record : ℕ
no_record = 13

-- the kinds
abbrev pub write_kind : ℕ
write_kind = 0

abbrev pub read_kind : ℕ
read_kind = 1

abbrev pub ticks_kind : ℕ
ticks_kind = 2

abbrev pub tachometer_kind : ℕ
tachometer_kind = 3

abbrev pub pin_kind : ℕ
pin_kind = 4

abbrev pub write_word_kind : ℕ
write_word_kind = 5

abbrev pub pulse_kind : ℕ
pulse_kind = 6

-- a number that has not begun; a record that has not begun
abbrev pub begun : Stage → Partial
begun stage = record { stage = stage; groups = 0; value = 0 }

abbrev pub blank : Partial
blank = begun Kind

-- what comes after a kind, or 13 at once
unfoldable pub kind_of : ℕ → Step
kind_of kind =
    if eqb kind write_kind then More (begun WriteAddress)
    else if eqb kind read_kind then More (begun ReadAddress)
    else if eqb kind ticks_kind then More (begun TickCount)
    else if eqb kind tachometer_kind then More (begun ResultChannel)
    else if eqb kind pin_kind then More (begun PinLevel)
    else if eqb kind write_word_kind then More (begun WordAddress)
    else if eqb kind pulse_kind then More (begun PulseChannel)
    else Refused no_record

-- what a whole number makes of a record. Of a write the value is a byte, of a pin the level 0 or 1, and a word has 16 bits; an address
-- or a channel is the call's to refuse
unfoldable pub number_of : Stage → ℕ → Step
number_of Kind n = kind_of n
number_of WriteAddress n = More (begun (WriteByte n))
number_of (WriteByte address) n = if ltb n 256 then Whole (Write address n) else Refused no_record
number_of ReadAddress n = Whole (Read n)
number_of TickCount n = Whole (Ticks n)
number_of ResultChannel n = More (begun (ResultCount n))
number_of (ResultCount channel) n = Whole (Tachometer channel n)
number_of PinLevel n = if ltb n 2 then Whole (Pin (eqb n 1)) else Refused no_record
number_of WordAddress n = More (begun (WordValue n))
number_of (WordValue address) n = if ltb n 65536 then Whole (WriteWord address n) else Refused no_record
number_of PulseChannel n = Whole (Pulse n)

abbrev pub group_taken : Partial → Group → Step
group_taken p (group.More value) = More (record { stage = p.stage; groups = p.groups + 1; value = value })
group_taken p (group.Last number) = number_of p.stage number
group_taken p (group.Refused refusal) = Refused refusal

-- one step a byte: what a byte makes of part of a record
unfoldable pub step_of : Partial → ℕ → Step
step_of p byte = group_taken p (group_of p.groups p.value byte)
