-- "There are 85": which register stands at an address.
use Rattle.std.specs.Prelude.{ℕ, ◌+◌, ◌-◌, ◌*◌, ◌/◌, ◌%◌, Bool, true, false, not, ◌&&◌, List, [], ◌∷◌, leb, ltb, eqb, if◌then◌else◌}
use Rattle.rules.specs.Types.{StatusRegister, Faults2, Faults1, Count, OtherCount, Output, Control, Frequency, Mask2, Mask1, Options, ChannelRegister, Config, Dynamics, Window, WordRegister, Target, TargetCount, Place, Absent, ReadOnly, Shared, Own, OwnWord}
use Rattle.rules.specs.Basics.{some}

infix 70 ◌to◌
-- "the high byte first": the odd bytes of a row of words are the low ones
abbrev pub is_low : ℕ → Bool
is_low n = eqb (n % 2) 1

-- 00h to 17h
unfoldable pub setting_at : ℕ → Place
setting_at a =
    if ltb a 0x01 then Shared Control
    else if ltb a 0x02 then Shared Frequency
    else if ltb a 0x08 then Own Config (a - 0x02)
    else if ltb a 0x0E then Own Dynamics (a - 0x08)
    else if ltb a 0x10 then Absent
    else if ltb a 0x11 then ReadOnly Faults2
    else if ltb a 0x12 then ReadOnly Faults1
    else if ltb a 0x13 then Shared Mask2
    else if ltb a 0x14 then Shared Mask1
    else if ltb a 0x15 then Shared Options
    else Absent

-- 18h to 3Fh
unfoldable pub status_at : ℕ → Place
status_at a =
    if ltb a 0x24 then ReadOnly (Count ((a - 0x18) / 2) (is_low (a - 0x18)))
    else if ltb a 0x30 then ReadOnly (OtherCount (is_low (a - 0x24)))
    else if ltb a 0x3C then ReadOnly (Output ((a - 0x30) / 2) (is_low (a - 0x30)))
    else Absent

-- 40h and above
unfoldable pub target_at : ℕ → Place
target_at a =
    if ltb a 0x4C then OwnWord Target ((a - 0x40) / 2) (is_low (a - 0x40))
    else if ltb a 0x50 then Absent
    else if ltb a 0x5C then OwnWord TargetCount ((a - 0x50) / 2) (is_low (a - 0x50))
    else if ltb a 0x60 then Absent
    else if ltb a 0x66 then Own Window (a - 0x60)
    else Absent

unfoldable pub place_at : ℕ → Place
place_at a =
    if ltb a 0x18 then setting_at a
    else if ltb a 0x40 then status_at a
    else target_at a

-- the channel that a register belongs to, counted from 0; 0 where it belongs to none
abbrev pub status_index : StatusRegister → ℕ
status_index Faults2 = 0
status_index Faults1 = 0
status_index (Count i low) = i
status_index (OtherCount low) = 0
status_index (Output i low) = i

abbrev pub index_of : Place → ℕ
index_of Absent = 0
index_of (ReadOnly r) = status_index r
index_of (Shared r) = 0
index_of (Own r i) = i
index_of (OwnWord r i low) = i

-- the even address of the target of the channel with index i: "40h to 4Bh: target duty", "50h to 5Bh: target count"
abbrev pub target_address : WordRegister → ℕ → ℕ
target_address Target i = 0x40 + 2 * i
target_address TargetCount i = 0x50 + 2 * i

-- ---- what refusals ask of a place

-- whether a register stands there, and whether it can only be read
abbrev pub is_carried : Place → Bool
is_carried Absent = false
is_carried (ReadOnly r) = true
is_carried (Shared r) = true
is_carried (Own r i) = true
is_carried (OwnWord r i low) = true

abbrev pub is_read_only : Place → Bool
is_read_only Absent = false
is_read_only (ReadOnly r) = true
is_read_only (Shared r) = false
is_read_only (Own r i) = false
is_read_only (OwnWord r i low) = false

-- whether it is a byte of a target, and whether it is the first one, at the even address
abbrev pub is_target : Place → Bool
is_target Absent = false
is_target (ReadOnly r) = false
is_target (Shared r) = false
is_target (Own r i) = false
is_target (OwnWord r i low) = true

abbrev pub is_first : Place → Bool
is_first Absent = false
is_first (ReadOnly r) = false
is_first (Shared r) = false
is_first (Own r i) = false
is_first (OwnWord r i low) = not low

-- whether it is a fan configuration
abbrev pub is_config_register : ChannelRegister → Bool
is_config_register Config = true
is_config_register Dynamics = false
is_config_register Window = false

abbrev pub is_config : Place → Bool
is_config Absent = false
is_config (ReadOnly r) = false
is_config (Shared r) = false
is_config (Own r i) = is_config_register r
is_config (OwnWord r i low) = false

-- ---- the papers' lists, for the theorem that the map has just these

-- the addresses from a first to a last one
pub record Row : Type 0 where
  pub first : ℕ
  pub last : ℕ

abbrev pub ◌to◌ : ℕ → ℕ → Row
first to last = record { first = first; last = last }

abbrev pub among : List Row → ℕ → Bool
among rows a = some (λ row. leb row.first a && leb a row.last) rows

-- "There are 85: 00h to 0Dh, 10h to 14h, 18h to 3Bh, 40h to 4Bh, 50h to 5Bh, 60h to 65h"
abbrev pub carried_rows : List Row
carried_rows = 0x00 to 0x0D ∷ 0x10 to 0x14 ∷ 0x18 to 0x3B ∷ 0x40 to 0x4B ∷ 0x50 to 0x5B ∷ 0x60 to 0x65 ∷ []

-- "Read-only: 10h, 11h, 18h to 3Bh"
abbrev pub read_only_rows : List Row
read_only_rows = 0x10 to 0x11 ∷ 0x18 to 0x3B ∷ []

-- "40h to 4Bh: target duty, 9 bits. 50h to 5Bh: target count, 11 bits"
abbrev pub target_rows : List Row
target_rows = 0x40 to 0x4B ∷ 0x50 to 0x5B ∷ []

-- "02h to 07h, channels 1 to 6"
abbrev pub config_rows : List Row
config_rows = 0x02 to 0x07 ∷ []
