-- Many ticks of the channels in turn, with the wait that they share.
use Prim.Native.Nat.{ℕ, zero, suc, ◌+◌, ◌-◌, ◌%◌, ◌^◌}
use mathlib.Core.Path.{◌≡◌, refl, ◌∙◌, ap, ap₂}
use mathlib.Core.Bool.{true}
use mathlib.Core.List.{List}
use native.Mathlib.Nat.{sub-zero}
use native.Mathlib.Omega.{arith}
use Rattle.laws.proofs.Types.{Channel, Conditions}
use Rattle.rules.specs.Basics.{some}
use Rattle.rules.specs.Tick.{channel_tick, overridden, rule_at, channels_tick, wait_tick}
use Rattle.laws.proofs.ChannelTicks.{tick-moves}
use Rattle.laws.proofs.Turns.{turns_same, turns-idle, wait-idle}

-- the wait, and the channels
abbrev pub Row : Type 0
Row = ℕ × List Channel

-- a tick of them, in which the wait falls first; m ticks, at the clocks t + 1, t + 2, .., each a 32-bit number
unfoldable pub row_tick : Conditions → ℕ → ℕ → Row → Row
row_tick k delay clock row =
    (wait_tick (rule_at k clock) delay (row.0 - 1) row.1, channels_tick (rule_at k clock) delay (row.0 - 1) row.1)

unfoldable pub row_ticks : Conditions → ℕ → ℕ → ℕ → Row → Row
row_ticks k delay zero t row = row
row_ticks k delay (suc m) t row = row_ticks k delay m (t + 1) (row_tick k delay ((t + 1) % 2 ^ 32) row)

module _ (k : Conditions) (delay : ℕ) where
  -- the last one split off
  pub rows_last : (m t : ℕ) (row : Row) →
      row_ticks k delay (suc m) t row ≡ row_tick k delay ((t + suc m) % 2 ^ 32) (row_ticks k delay m t row)
  unfolding row_ticks
  rows_last zero t row = refl
  rows_last (suc m) t row =
      let e : t + 1 + suc m ≡ t + suc (suc m) = omega arith in
      let next = row_tick k delay ((t + 1) % 2 ^ 32) row in
      rows_last m (t + 1) next ∙ ap (λ c. row_tick k delay (c % 2 ^ 32) (row_ticks k delay m (t + 1) next)) e

  -- they set and clear no fault bit
  pub rows-fault : (m t : ℕ) (row : Row) → some (λ ch. ch.fault) (row_ticks k delay m t row).1 ≡ some (λ ch. ch.fault) row.1
  unfolding row_ticks row_tick
  rows-fault zero t row = refl
  rows-fault (suc m) t row =
      let c = (t + 1) % 2 ^ 32 in
      rows-fault m (t + 1) (row_tick k delay c row)
      ∙ turns_same (rule_at k c) delay (λ ch. ch.fault) (λ ch. ap (λ (x : Channel). x.fault) (tick-moves (overridden k ch) c ch).3) (row.0 - 1) row.1

  -- where every channel is overridden, only the wait falls
  module _ (all : (ch : Channel) → overridden k ch ≡ true) where
    pub row-frozen : (c : ℕ) (row : Row) → row_tick k delay c row ≡ (row.0 - 1, row.1)
    unfolding row_tick channel_tick
    row-frozen c row =
        let idle : (ch : Channel) → rule_at k c ch ≡ ch = λ ch. ap (λ b. channel_tick b c ch) (all ch) in
        ap₂ (λ w chs. (w, chs)) (wait-idle (rule_at k c) delay idle (row.0 - 1) row.1) (turns-idle (rule_at k c) delay idle (row.0 - 1) row.1)

    pub rows-frozen : (m t : ℕ) (row : Row) → row_ticks k delay m t row ≡ (row.0 - m, row.1)
    unfolding row_ticks
    rows-frozen zero t row = rw sub-zero refl
    rows-frozen (suc m) t row =
        let e : row.0 - 1 - m ≡ row.0 - suc m = omega arith in
        ap (row_ticks k delay m (t + 1)) (row-frozen ((t + 1) % 2 ^ 32) row)
        ∙ rows-frozen m (t + 1) (row.0 - 1, row.1) ∙ ap (λ w. (w, row.1)) e
