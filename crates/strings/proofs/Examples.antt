-- Strings that meet the conditions of the theorems, and a string for each refusal of the reading.
use Prim.Native.Nat.{ℕ, ◌^◌, ◌≤◌, ◌<◌}
use mathlib.Core.Path.{◌≡◌, refl}
use mathlib.Core.Bool.{true, false}
use mathlib.Core.List.{List, [], ◌∷◌, ◌++◌, map}
use native.Mathlib.Omega.{arith}
use lib.ListN.{length, replicate}
use Rattle.rules.specs.State.{timer, with_timer}
use Rattle.rules.specs.Calls.{accepted, state_not_valid, not_carried}
use Rattle.rules.specs.Map.{setting_at, place_at}
use Rattle.rules.specs.Time.{watchdog_limit}
use Rattle.rules.specs.Valid.{valid_channel, valid_pulses, valid_registers, valid_start, valid_timer, valid_of}
use Rattle.rules.specs.Start.{zero_state}
use Rattle.rules.specs.Write.{write_refusal, written, box_written, write_of}
use Rattle.rules.specs.Read.{place_byte, box_byte, read_at, read_of}
use Rattle.rules.specs.Make.{made}
use Rattle.rules.specs.declared.Call.TheVariants as call
use Rattle.strings.specs.declared.order.Order.TheVariants.{Write, WriteWord}
use Rattle.strings.specs.Number.{string_ends, long_form, number_too_large, group_of}
use Rattle.strings.specs.Record.{no_record, kind_of, number_of, step_of}
use Rattle.strings.specs.String.{whole, refused, record_from, front_of}
use Rattle.strings.specs.Encode.{bytes_within, number_bytes, numbers_bytes, numbers_of, encoded}
use Rattle.strings.specs.Trips.{below}
use Rattle.strings.specs.Run.{answers_too_short, run_on, run_of}

-- ---- the reading

-- a read without its address, a pin cut off in the middle of its number; an address of 0 in two bytes; a fifth byte of 16, at the end
-- and with its top bit set, where it says that another follows; kind 7; a write of 256, a pin level of 2, a word of 65,536, each before
-- its address is looked at
pub refused-examples : map front_of (
    (0x01 ∷ []) ∷ (0x04 ∷ 0x82 ∷ [])
    ∷ (0x01 ∷ 0x80 ∷ 0x00 ∷ [])
    ∷ (0x02 ∷ 0xFF ∷ 0xFF ∷ 0xFF ∷ 0xFF ∷ 0x10 ∷ []) ∷ (0x02 ∷ 0xFF ∷ 0xFF ∷ 0xFF ∷ 0xFF ∷ 0x81 ∷ 0x00 ∷ [])
    ∷ (0x07 ∷ []) ∷ (0x00 ∷ 0x0E ∷ 0x80 ∷ 0x02 ∷ []) ∷ (0x04 ∷ 0x02 ∷ []) ∷ (0x05 ∷ 0x0E ∷ 0x80 ∷ 0x80 ∷ 0x04 ∷ []) ∷ [])
    ≡ map refused (string_ends ∷ string_ends ∷ long_form ∷ number_too_large ∷ number_too_large ∷ no_record ∷ no_record ∷ no_record ∷ no_record ∷ [])
unfolding front_of record_from step_of group_of number_of kind_of
refused-examples = refl

-- ---- both ways

-- numbers of one, two and five bytes; a record of 32-bit numbers, which is read back and judged; one that is taken, and what follows it;
-- the longest word; a pulse on a channel that its call will refuse
pub trip-examples : (map number_bytes (127 ∷ 300 ∷ 4294967295 ∷ []) ≡ (0x7F ∷ []) ∷ (0xAC ∷ 0x02 ∷ []) ∷ (0xFF ∷ 0xFF ∷ 0xFF ∷ 0xFF ∷ 0x0F ∷ []) ∷ [])
    × ((below (2 ^ 32) (numbers_of (Write 4294967295 256)) ≡ true) × (front_of (encoded (Write 4294967295 256)) ≡ refused no_record))
    × (let string = encoded (Write 300 255) ++ (0x05 ∷ []) in
    (below 256 string ≡ true) × (front_of string ≡ whole (call.Write 300 255) (0x05 ∷ [])))
    × (front_of (encoded (WriteWord 0x40 65535)) ≡ whole (call.WriteWord 0x40 65535) [])
    × (front_of (0x06 ∷ 0xAC ∷ 0x02 ∷ []) ≡ whole (call.Pulse 300) [])
unfolding number_bytes bytes_within encoded numbers_bytes front_of record_from step_of group_of number_of kind_of
trip-examples = (refl, (refl, refl), (refl, refl), refl, refl)

-- ---- the run

-- A5h into 01h, 01h read, an absent address read, the pin high
abbrev four_records : List ℕ
four_records = 0x00 ∷ 0x01 ∷ 0xA5 ∷ 0x01 ∷ 0x01 ∷ 0x01 ∷ 0x01 ∷ 0x0E ∷ 0x04 ∷ 0x01 ∷ []

abbrev sevens : ℕ → List ℕ
sevens room = replicate room 7

-- with room, the third record's call is refused: two are taken, and one byte stands before the buffer's own. Allowed one record, it is
-- not refused
pub run-example : (valid_of zero_state ≡ true) × (length four_records ≤ length (sevens 10))
    × (let r = run_of zero_state four_records 9 (sevens 10) in
    (r.answer.refusal ≡ not_carried) × (r.answer.taken ≡ 2) × (r.answer.answered ≡ 1) × (r.buffer ≡ 0xA5 ∷ sevens 9))
    × ((run_of zero_state four_records 1 (sevens 10)).answer.refusal ≡ accepted)
unfolding run_of run_on front_of record_from step_of group_of number_of kind_of made write_of write_refusal written box_written read_of read_at place_byte box_byte place_at setting_at valid_of valid_registers valid_start valid_timer valid_channel valid_pulses watchdog_limit
run-example = (refl, omega arith, (refl, refl, refl, refl), refl)

-- a buffer short by one; a state with the watchdog off and an idle count
pub nothing-done-examples : (length (sevens 9) < length four_records) × ((run_of zero_state four_records 0 (sevens 9)).answer.refusal ≡ answers_too_short)
    × (let s = with_timer zero_state (timer 0 1 false false 0) in (valid_of s ≡ false) × ((run_of s [] 0 []).answer.refusal ≡ state_not_valid))
unfolding run_of valid_of valid_registers valid_start valid_timer valid_channel valid_pulses watchdog_limit
nothing-done-examples = (omega arith, refl, (refl, refl))
