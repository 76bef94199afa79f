-- The limits: what the code's two tables say of each number.
use Prim.Native.Nat.{ℕ, ◌+◌, ◌-◌, ◌*◌, ◌/◌, ◌≤◌, ◌<◌}
use mathlib.Core.Path.{◌≡◌, refl, ◌∙◌}
use mathlib.Core.Bool.{Bool}
use native.Mathlib.Omega.{arith}
use lib.Dec.{eqb}
use lib.ListN.{length, get_or, get_or-eq_default}
use borrow.Author.Tests.{eqb-true}
use Rattle.rules.proofs.Tests.{all-below}
use Rattle.numbers.specs.Numbers.{box_table, channel_table, limits_in, limits, limit_at, channels_limits}

-- the limit at each index, by a test of all of them

in_box : ℕ → Bool
in_box i = eqb (get_or (limits_in box_table) i 0) (limit_at i)

-- the index within a channel's numbers, as the code works it out
abbrev within : ℕ → ℕ
within i = i - i * (512 / length channel_table + 1) / 512 * length channel_table

in_channels : ℕ → Bool
in_channels i = eqb (get_or (limits_in channel_table) (within i) 0) (limit_at (length box_table + i))

pub limit-in-box : (i : ℕ) → i < length box_table → get_or (limits_in box_table) i 0 ≡ limit_at i
unfolding limits channels_limits in_box
limit-in-box i h = eqb-true _ (limit_at i) (all-below (length box_table) in_box refl i h)

pub limit-in-channels : (i : ℕ) → length box_table ≤ i → i < length limits →
    get_or (limits_in channel_table) (within (i - length box_table)) 0 ≡ limit_at i
unfolding limits channels_limits in_channels
limit-in-channels i h g =
    let j = i - length box_table in
    let e : length box_table + j ≡ i = omega arith in
    eqb-true (get_or (limits_in channel_table) (within j) 0) (limit_at (length box_table + j)) (all-below (6 * length channel_table) in_channels refl j (omega arith))
    ∙ rw e

pub limit-past : (i : ℕ) → length limits ≤ i → limit_at i ≡ 0
limit-past i h = get_or-eq_default limits 0 h
