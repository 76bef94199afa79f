-- A number of an order string, byte by byte: "whole numbers in groups of seven bits, low group first, top bit set on all but the
-- last, shortest form only, at most 4,294,967,295".
use Rattle.std.specs.Prelude.{ℕ, ◌+◌, ◌*◌, ◌%◌, ◌^◌, ◌&&◌, ltb, eqb, if◌then◌else◌}
use Rattle.strings.specs.Types.{Group}
use Rattle.strings.specs.Group.{More, Last, Refused}

-- "then number by number 12 (fifth byte above 15), 11 (last byte 0 after another), 10 (string ends first)"
abbrev pub string_ends : ℕ
string_ends = 10

abbrev pub long_form : ℕ
long_form = 11

abbrev pub number_too_large : ℕ
number_too_large = 12

-- one step a byte: what a byte makes of a number of which so many groups have been read, worth `value`. The fifth byte holds
-- bits 28 to 31, and so is at most 15 and the last
unfoldable pub group_of : ℕ → ℕ → ℕ → Group
group_of groups value byte =
    let next = value + byte % 128 * 2 ^ (7 * groups) in
    if eqb groups 4 && ltb 15 byte then Refused number_too_large
    else if ltb 0 groups && eqb byte 0 then Refused long_form
    else if ltb byte 128 then Last next
    else More next
