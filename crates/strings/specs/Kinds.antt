-- The kinds of records in the code, and their numbers.
use Rattle.std.specs.Prelude.{ℕ, eqb, Option, None, Some, if◌then◌else◌}
use Rattle.strings.specs.declared.kind.Kind.{Kind}
use Rattle.strings.specs.declared.kind.Kind.TheVariants.{Write, Read, Ticks, Tachometer, Pin, WriteWord, Pulse}
use Rattle.strings.specs.Record.{write_kind, read_kind, ticks_kind, tachometer_kind, pin_kind, write_word_kind, pulse_kind}

abbrev pub kind_number : Kind → ℕ
kind_number Write = write_kind
kind_number Read = read_kind
kind_number Ticks = ticks_kind
kind_number Tachometer = tachometer_kind
kind_number Pin = pin_kind
kind_number WriteWord = write_word_kind
kind_number Pulse = pulse_kind

abbrev pub kind_by : ℕ → Option Kind
kind_by n =
    if eqb n write_kind then Some Write
    else if eqb n read_kind then Some Read
    else if eqb n ticks_kind then Some Ticks
    else if eqb n tachometer_kind then Some Tachometer
    else if eqb n pin_kind then Some Pin
    else if eqb n write_word_kind then Some WriteWord
    else if eqb n pulse_kind then Some Pulse
    else None
