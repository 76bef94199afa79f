-- One channel among the others, over many ticks: where no wait keeps it back, it goes as it would by itself.
use Prim.Native.Nat.{ℕ, zero, suc, ◌+◌, ◌-◌, ◌%◌, ◌^◌, ◌≤◌, ◌<◌}
use mathlib.Core.Path.{◌≡◌, refl, sym, ◌∙◌, ap, ap₂}
use mathlib.Core.Bool.{true, false, not}
use mathlib.Core.List.{List, [], ◌∷◌, map}
use native.Mathlib.Nat.{sub-zero}
use native.Mathlib.Omega.{arith}
use lib.Dec.{eqb}
use lib.ListN.{length, get_or, take, get_or-eq_default}
use lib.Seq.{take_all}
use native.Mathlib.Decide.{dec_lt}
use borrow.Author.Tests.{eqb-true, eqb-false, not-true}
use Rattle.laws.proofs.Types.{Channel, Conditions}
use Rattle.rules.specs.Basics.{every}
use Rattle.rules.specs.State.{blank}
use Rattle.rules.specs.Tick.{wanted, rule_at, leaves_zero, in_turn, channels_tick, wait_tick}
use Rattle.rules.proofs.Tests.{and_left, and_right, by-test}
use Rattle.laws.proofs.Turns.{turn-stays, wait-stays, turn-free, turns_at, turns-long, wait-below, wait-upto}
use Rattle.laws.proofs.Each.{map_same}
use Rattle.laws.proofs.ChannelTicks.{channel_ticks}
use Rattle.laws.proofs.Waiting.{waits, alone, alone-last, alone-none, overridden-rule, not-leaving, still-none, left-none}
use Rattle.laws.proofs.Rows.{Row, row_tick, row_ticks, rows_last}

abbrev at : List Channel → ℕ → Channel
at chs i = get_or chs i blank

blank_none : (k : Conditions) → waits k blank ≡ false
unfolding waits wanted
blank_none k = refl

-- ---- one tick, and then the others

module _ (k : Conditions) (delay : ℕ) where
  row-long : (c : ℕ) (row : Row) → length (row_tick k delay c row).1 ≡ length row.1
  unfolding row_tick
  row-long c row = turns-long (rule_at k c) delay (row.0 - 1) row.1

  pub rows_long : (m t : ℕ) (row : Row) → length (row_ticks k delay m t row).1 ≡ length row.1
  unfolding row_ticks
  rows_long zero t row = refl
  rows_long (suc m) t row = rows_long m (t + 1) (row_tick k delay ((t + 1) % 2 ^ 32) row) ∙ row-long ((t + 1) % 2 ^ 32) row

  -- the wait at which it has its turn
  wait_at : ℕ → Row → ℕ → ℕ
  wait_at c row i = wait_tick (rule_at k c) delay (row.0 - 1) (take i row.1)

  row_at : (c : ℕ) (row : Row) (i : ℕ) → i < length row.1 → at (row_tick k delay c row).1 i ≡ in_turn (rule_at k c) (wait_at c row i) (at row.1 i)
  unfolding row_tick wait_at
  row_at c row i h = turns_at (rule_at k c) delay (row.0 - 1) row.1 i blank blank h

  -- with a delay above 0 none before it leaves in this tick
  abbrev NoneBefore : ℕ → List Channel → ℕ → Type 0
  NoneBefore c chs i = (delay ≡ 0 → ⊥) → (n : ℕ) → n < i → leaves_zero (rule_at k c) (at chs n) ≡ false

  -- so, where the wait is over once it has fallen, it goes as the rule leaves it
  row-free : (c : ℕ) (row : Row) (i : ℕ) → i < length row.1 → row.0 ≤ 1 → NoneBefore c row.1 i →
      at (row_tick k delay c row).1 i ≡ rule_at k c (at row.1 i)
  unfolding wait_at
  row-free c row i h over none =
      let rule = rule_at k c in
      let start : row.0 - 1 ≡ 0 = omega arith in
      let zero-wait : wait_at c row i ≡ 0 =
      by-test (eqb delay 0)
      (λ e. omega (arith, wait-below rule delay 0 (omega (arith, eqb-true delay 0 e)) (row.0 - 1) (take i row.1) (omega arith)))
      (λ e. wait-upto rule delay (row.0 - 1) row.1 i (none (eqb-false delay 0 e)) ∙ start) in
      row_at c row i h ∙ ap (λ w. in_turn rule w (at row.1 i)) zero-wait ∙ turn-free rule (at row.1 i)

  -- the first tick as the rule leaves it, and the others from there
  first_alone : (m t : ℕ) (ch : Channel) → alone k m (t + 1) (rule_at k ((t + 1) % 2 ^ 32) ch) ≡ alone k (suc m) t ch
  unfolding channel_ticks
  first_alone m t ch = ap (λ b. channel_ticks b m (t + 1) (rule_at k ((t + 1) % 2 ^ 32) ch)) (overridden-rule k ((t + 1) % 2 ^ 32) ch)

  -- a channel that does not wait is by itself, whatever the others do
  pub none-alone : (m t : ℕ) (row : Row) (i : ℕ) → i < length row.1 → waits k (at row.1 i) ≡ false →
      at (row_ticks k delay m t row).1 i ≡ alone k m t (at row.1 i)
  unfolding row_ticks channel_ticks
  none-alone zero t row i h none = refl
  none-alone (suc m) t row i h none =
      let c = (t + 1) % 2 ^ 32 in
      let ch = at row.1 i in
      let next : at (row_tick k delay c row).1 i ≡ rule_at k c ch = row_at c row i h ∙ turn-stays (rule_at k c) ch (not-leaving k ch none c) (wait_at c row i) in
      none-alone m (t + 1) (row_tick k delay c row) i (rw row-long h) (ap (waits k) next ∙ still-none k ch none c)
      ∙ ap (alone k m (t + 1)) next ∙ first_alone m t ch

  -- one that leaves 0 in the first tick is by itself from then on
  pub left_alone : (m t : ℕ) (row : Row) (i : ℕ) → i < length row.1 → row.0 ≤ 1 → NoneBefore ((t + 1) % 2 ^ 32) row.1 i →
      leaves_zero (rule_at k ((t + 1) % 2 ^ 32)) (at row.1 i) ≡ true →
      at (row_ticks k delay (suc m) t row).1 i ≡ alone k (suc m) t (at row.1 i)
  unfolding row_ticks
  left_alone m t row i h over none leaves =
      let c = (t + 1) % 2 ^ 32 in
      let next = row-free c row i h over none in
      none-alone m (t + 1) (row_tick k delay c row) i (rw row-long h) (ap (waits k) next ∙ left-none k (rule_at k c) (at row.1 i) leaves)
      ∙ ap (alone k m (t + 1)) next ∙ first_alone m t (at row.1 i)

  -- with no wait and no delay each is by itself
  pub free-alone : (m t : ℕ) (row : Row) (i : ℕ) → i < length row.1 → row.0 ≡ 0 → delay ≡ 0 →
      at (row_ticks k delay m t row).1 i ≡ alone k m t (at row.1 i)
  unfolding row_ticks row_tick channel_ticks
  free-alone zero t row i h z none = refl
  free-alone (suc m) t row i h z none =
      let c = (t + 1) % 2 ^ 32 in
      let next = row-free c row i h (omega arith) (λ some. absurd (some none)) in
      let still : (row_tick k delay c row).0 ≡ 0 = omega (arith, wait-below (rule_at k c) delay 0 (omega arith) (row.0 - 1) row.1 (omega arith)) in
      free-alone m (t + 1) (row_tick k delay c row) i (rw row-long h) still none ∙ ap (alone k m (t + 1)) next ∙ first_alone m t (at row.1 i)

  -- at wait 0 with no other that waits, it is by itself
  module _ (i : ℕ) where
    abbrev Others : List Channel → Type 0
    Others chs = (n : ℕ) → (n ≡ i → ⊥) → waits k (at chs n) ≡ false

    only_none : (c : ℕ) (row : Row) → row.0 - 1 ≡ 0 → leaves_zero (rule_at k c) (at row.1 i) ≡ false → Others row.1 → (row_tick k delay c row).0 ≡ 0
    unfolding row_tick
    only_none c row start stays others =
        let all : (n : ℕ) → leaves_zero (rule_at k c) (at row.1 n) ≡ false = λ n.
        by-test (eqb n i)
        (λ e. ap (λ x. leaves_zero (rule_at k c) (at row.1 x)) (eqb-true n i e) ∙ stays)
        (λ e. not-leaving k (at row.1 n) (others n (eqb-false n i e)) c) in
        ap (wait_tick (rule_at k c) delay (row.0 - 1)) (sym (take_all (length row.1) row.1 (omega arith)))
        ∙ wait-upto (rule_at k c) delay (row.0 - 1) row.1 (length row.1) (λ n l. all n) ∙ start

    only-others : (c : ℕ) (row : Row) → Others row.1 → Others (row_tick k delay c row).1
    only-others c row others n other =
        elim (dec_lt n (length row.1)) [
          | yes h ↦ ap (waits k) (row_at c row n h ∙ turn-stays (rule_at k c) (at row.1 n) (not-leaving k (at row.1 n) (others n other) c) (wait_at c row n))
              ∙ still-none k (at row.1 n) (others n other) c
          | no g ↦ let past : length (row_tick k delay c row).1 ≤ n = rw row-long (omega arith) in
              ap (waits k) (get_or-eq_default (row_tick k delay c row).1 blank past) ∙ blank_none k
        ]

    pub only-alone : (m t : ℕ) (row : Row) → i < length row.1 → row.0 ≡ 0 → Others row.1 →
        at (row_ticks k delay m t row).1 i ≡ alone k m t (at row.1 i)
    unfolding row_ticks channel_ticks
    only-alone zero t row h z others = refl
    only-alone (suc m) t row h z others =
        let c = (t + 1) % 2 ^ 32 in
        let rule = rule_at k c in
        let ch = at row.1 i in
        by-test (leaves_zero rule ch)
        (left_alone m t row i h (omega arith) (λ _ n l. not-leaving k (at row.1 n) (others n (λ e. omega arith)) c))
        (λ l. let next : at (row_tick k delay c row).1 i ≡ rule ch = row_at c row i h ∙ turn-stays rule ch l (wait_at c row i) in
        only-alone m (t + 1) (row_tick k delay c row) (rw row-long h) (only_none c row (omega arith) l others) (only-others c row others)
        ∙ ap (alone k m (t + 1)) next ∙ first_alone m t ch)

-- ---- where none waits, each is by itself, and the wait falls

module _ (k : Conditions) (delay : ℕ) where
  none-turns : (m t wait : ℕ) (chs : List Channel) → every (λ ch. not (waits k ch)) chs ≡ true →
      let rule = rule_at k ((t + suc m) % 2 ^ 32) in
      (channels_tick rule delay wait (map (alone k m t) chs) ≡ map (alone k (suc m) t) chs) × (wait_tick rule delay wait (map (alone k m t) chs) ≡ wait)
  unfolding channels_tick wait_tick
  none-turns m t wait [] e = (refl, refl)
  none-turns m t wait (ch ∷ chs) e =
      let c = (t + suc m) % 2 ^ 32 in
      let rule = rule_at k c in
      let now = map (alone k m t) chs in
      let stays = not-leaving k (alone k m t ch) (alone-none k m t ch (not-true _ (and_left _ _ e))) c in
      let same = wait-stays rule (alone k m t ch) stays delay wait in
      let rest = none-turns m t wait chs (and_right (not (waits k ch)) _ e) in (
        ap₂ (λ x xs. x ∷ xs) (turn-stays rule (alone k m t ch) stays wait ∙ alone-last k m t ch) (ap (λ w. channels_tick rule delay w now) same ∙ rest.0),
        ap (λ w. wait_tick rule delay w now) same ∙ rest.1,
      )

  pub none_rows : (m t wait : ℕ) (chs : List Channel) → every (λ ch. not (waits k ch)) chs ≡ true →
      row_ticks k delay m t (wait, chs) ≡ (wait - m, map (alone k m t) chs)
  unfolding row_ticks row_tick channel_ticks
  none_rows zero t wait chs e = ap₂ (λ w xs. (w, xs)) (sym (sub-zero wait)) (sym (map_same (alone k 0 t) (λ ch. refl) chs))
  none_rows (suc m) t wait chs e =
      let f : wait - m - 1 ≡ wait - suc m = omega arith in
      let next = none-turns m t (wait - m - 1) chs e in
      rows_last k delay m t (wait, chs) ∙ ap (row_tick k delay ((t + suc m) % 2 ^ 32)) (none_rows m t wait chs e)
      ∙ ap₂ (λ w xs. (w, xs)) (next.1 ∙ f) next.0
