-- The round trips: `load` of `dump` is the same state, and `dump` of `load` the same numbers.
use Prim.Native.Nat.{ℕ, zero, suc, ◌+◌, ◌*◌, ◌/◌, ◌%◌, ◌^◌, ◌≤◌}
use mathlib.Core.Path.{◌≡◌, refl, sym, ◌∙◌, ap, ap₂}
use mathlib.Core.Bool.{Bool, true, false}
use mathlib.Core.List.{List, [], ◌∷◌, ◌++◌, map}
use native.Mathlib.Omega.{arith}
use native.Mathlib.Nat.{div-div-eq-div-mul}
use lib.ListN.{length, get_or, take, drop, take-append-drop}
use lib.Seq.{drop-drop}
use borrow.Author.Tests.{eq-eqb, ne_eqb, eqb-true, eqb-false}
use Rattle.rules.specs.declared.Channel.{Channel}
use Rattle.rules.specs.declared.State.{State}
use Rattle.rules.specs.Basics.{bit, flag}
use Rattle.rules.specs.State.{blank, with_motion}
use Rattle.rules.specs.Registers.{control_kept}
use Rattle.rules.specs.Read.{control_byte}
use Rattle.rules.specs.Duty.{fault_byte}
use Rattle.rules.specs.Valid.{valid_of}
use Rattle.rules.proofs.Tests.{flag-le}
use Rattle.laws.proofs.Faults.{fault-bit}
use Rattle.laws.proofs.Valid.{parts, registers-parts}
use Rattle.lent.specs.Values.{byte_of, number}
use Rattle.numbers.specs.Numbers.{box_table, channel_table, limits_in, numbers_in, Within, channels_numbers, state_numbers, channels_limits, limits, channel_from, own_from, channel_at, registers_from, timer_from, start_from, state_from}
use Rattle.numbers.specs.RoundTrips.{StatusApart, RoundTrips}
use Rattle.numbers.proofs.Held.{held, held_whole, within_none, within-length, within-take, within-drop, listed, listed-take}

-- ---- bits and flags

flag-bit : (i n : ℕ) → flag (bit i n) ≡ n / 2 ^ i % 2
flag-bit i n = go (bit i n) refl
  where
    go : (on : Bool) → bit i n ≡ on → flag on ≡ n / 2 ^ i % 2
    go true e = sym (eqb-true _ 1 e)
    go false e = let h : n / 2 ^ i % 2 ≡ 1 → ⊥ = eqb-false _ 1 e in omega arith

flag-lowest : (n : ℕ) → flag (bit 0 n) ≡ n % 2
flag-lowest n = rw (flag-bit 0 n) (omega arith)

bit-flag : (x : ℕ) (on : Bool) → bit 0 (x * 2 + flag on) ≡ on
bit-flag x true = eq-eqb ((x * 2 + 1) / 2 ^ 0 % 2) 1 (omega arith)
bit-flag x false = let e : (x * 2 + 0) / 2 ^ 0 % 2 ≡ 1 → ⊥ = λ z. omega arith in ne_eqb ((x * 2 + 0) / 2 ^ 0 % 2) 1 e

bit-of-flag : (on : Bool) → bit 0 (flag on) ≡ on
bit-of-flag true = refl
bit-of-flag false = refl

-- ---- the indexes of n channels from i on
abbrev up_from : ℕ → ℕ → List ℕ
up_from i zero = []
up_from i (suc n) = i ∷ up_from (suc i) n

next-own : (v : List ℕ) (i : ℕ) → drop (own_from (suc i)) v ≡ drop (length channel_table) (drop (own_from i) v)
next-own v i = let e : own_from (suc i) ≡ own_from i + length channel_table = omega arith in rw e (sym (drop-drop (length channel_table) (own_from i) v))

-- ---- `load` of `dump`

module _ (ch : Channel) (rest : List ℕ) (w : Within (limits_in channel_table) (numbers_in channel_table ch)) where
  channel-back : (fault : Bool) → fault ≡ ch.fault → channel_from fault (numbers_in channel_table ch ++ rest) ≡ with_motion ch ch.ramp ch.spin ch.pulses
  unfolding channel_from
  channel-back fault e = cc (held_whole (limits_in channel_table) (numbers_in channel_table ch) w)

channels-back : (v : List ℕ) (n i : ℕ) (channels : List Channel) → drop (own_from i) v ≡ channels_numbers channels →
    ((k : ℕ) → bit (i + k) (number v 4) ≡ (get_or channels k blank).fault) →
    Within (channels_limits n) (channels_numbers channels) → map (channel_at v) (up_from i n) ≡ channels
unfolding channels_numbers channels_limits Within channel_at
channels-back v zero i [] e f w = refl
channels-back v zero i (ch ∷ channels) e f w = absurd w
channels-back v (suc n) i [] e f w = absurd w
channels-back v (suc n) i (ch ∷ channels) e f w =
    ap₂ (λ c l. c ∷ l)
    (rw e (channel-back ch (channels_numbers channels) (within-take (limits_in channel_table) (channels_limits n) (channels_numbers (ch ∷ channels)) w) (bit i (number v 4)) (let z : i + 0 ≡ i = omega arith in rw z at (f 0))))
    (channels-back v n (suc i) channels (next-own v i ∙ rw e) (λ k. let s : suc i + k ≡ i + suc k = omega arith in rw s (f (suc k)))
    (within-drop (limits_in channel_table) (channels_limits n) (channels_numbers (ch ∷ channels)) w))

module _ (s : State) (rest : List ℕ) (w : Within (limits_in box_table) (numbers_in box_table s)) where
  abbrev box : List ℕ
  box = numbers_in box_table s ++ rest

  -- number k of the box is no larger than what its field holds
  whole : (k : ℕ) → get_or (held (limits_in box_table) (numbers_in box_table s)) k 0 ≡ get_or (numbers_in box_table s) k 0
  whole k = ap (λ l. get_or l k 0) (held_whole (limits_in box_table) (numbers_in box_table s) w)

  timer-back : timer_from box ≡ s.timer
  unfolding timer_from
  timer-back =
      rw (whole 0, whole 9, whole 15, bit-of-flag s.timer.expired, bit-flag (s.registers.control / 2 % 128) s.timer.status)

  start_back : start_from box ≡ s.start
  unfolding start_from
  start_back = rw (whole 10, whole 11, whole 12, whole 13, whole 14)

  registers-back : StatusApart s → registers_from box ≡ s.registers
  unfolding registers_from
  registers-back e =
      let kept : byte_of (control_byte s.registers.control s.timer.status) / 2 * 2 ≡ s.registers.control =
      omega (arith, flag-le s.timer.status) in
      rw (kept, whole 3, whole 5, whole 6, whole 7)

state-back : (s : State) → Within limits (state_numbers s) → StatusApart s → state_from (state_numbers s) ≡ s
unfolding state_from state_numbers limits
state-back s w e =
    let box = within-take (limits_in box_table) (channels_limits 6) _ w in
    let channels = channels_numbers s.channels in
    rw (
      channels-back (state_numbers s) 6 0 s.channels refl (λ k. let z : 0 + k ≡ k = omega arith in rw z (fault-bit s.channels k)) (within-drop (limits_in box_table) (channels_limits 6) _ w),
      registers-back s channels box e,
      bit-of-flag s.pin,
      start_back s channels box,
      timer-back s channels box,
    )

-- ---- `dump` of `load`

control-back : (n : ℕ) → control_byte (byte_of n / 2 * 2) (bit 0 n) ≡ byte_of n
control-back n = rw (flag-lowest n) (omega arith)

-- six bits, the lowest first, are the number's last six: one more bit in front of one, two, .. of the halved number
one_more : (x : ℕ) →
    (x % 2 + 2 * (x / 2 % 2) ≡ x % 4) × (x % 2 + 2 * (x / 2 % 4) ≡ x % 8) × (x % 2 + 2 * (x / 2 % 8) ≡ x % 16)
    × (x % 2 + 2 * (x / 2 % 16) ≡ x % 32) × (x % 2 + 2 * (x / 2 % 32) ≡ x % 64)
one_more x = (omega arith, omega arith, omega arith, omega arith, omega arith)

six-bits : (n : ℕ) → n / 1 % 2 + 2 * (n / 2 % 2 + 2 * (n / 4 % 2 + 2 * (n / 8 % 2 + 2 * (n / 16 % 2 + 2 * (n / 32 % 2 + 2 * 0))))) ≡ n % 64
six-bits n =
    let whole : n / 1 ≡ n = omega arith in
    let last : n / 32 % 2 + 2 * 0 ≡ n / 32 % 2 = omega arith in
    let two : n / 16 % 2 + 2 * (n / 32 % 2) ≡ n / 16 % 4 = rw (div-div-eq-div-mul n 16 2) at (one_more (n / 16)).0 in
    let three : n / 8 % 2 + 2 * (n / 16 % 4) ≡ n / 8 % 8 = rw (div-div-eq-div-mul n 8 2) at (one_more (n / 8)).1 in
    let four : n / 4 % 2 + 2 * (n / 8 % 8) ≡ n / 4 % 16 = rw (div-div-eq-div-mul n 4 2) at (one_more (n / 4)).2 in
    let five : n / 2 % 2 + 2 * (n / 4 % 16) ≡ n / 2 % 32 = rw (div-div-eq-div-mul n 2 2) at (one_more (n / 2)).3 in
    rw (whole, last, two, three, four, five) (one_more n).4

faults-back : (v : List ℕ) → fault_byte (map (channel_at v) (up_from 0 6)) ≡ number v 4 % 64
unfolding channel_at channel_from
faults-back v = let n = number v 4 in rw (flag-bit 0 n, flag-bit 1 n, flag-bit 2 n, flag-bit 3 n, flag-bit 4 n, flag-bit 5 n) (six-bits n)

box-back : (v : List ℕ) → length box_table ≤ length v → Within (limits_in box_table) (take (length box_table) v) →
    numbers_in box_table (state_from v) ≡ take (length box_table) v
unfolding state_from registers_from timer_from start_from
box-back v l w =
    let each = listed-take v 0 (length box_table) l in
    rw (faults-back v, control-back (number v 2), flag-lowest (number v 1), flag-lowest (number v 8))
    (held_whole (limits_in box_table) (listed v 0 (length box_table)) (rw each at w) ∙ sym each)

channel-numbers-back : (fault : Bool) (v : List ℕ) → length channel_table ≤ length v →
    Within (limits_in channel_table) (take (length channel_table) v) → numbers_in channel_table (channel_from fault v) ≡ take (length channel_table) v
unfolding channel_from
channel-numbers-back fault v l w =
    let each = listed-take v 0 (length channel_table) l in
    held_whole (limits_in channel_table) (listed v 0 (length channel_table)) (rw each at w) ∙ sym each

channels-numbers-back : (v : List ℕ) (n i : ℕ) → Within (channels_limits n) (drop (own_from i) v) →
    channels_numbers (map (channel_at v) (up_from i n)) ≡ drop (own_from i) v
unfolding channels_numbers channels_limits channel_at
channels-numbers-back v zero i w = sym (within_none _ w)
channels-numbers-back v (suc n) i w =
    let own = drop (own_from i) v in
    let long : length channel_table ≤ length own = omega (arith, within-length (channels_limits (suc n)) own w) in
    ap₂ (λ a b. a ++ b)
    (channel-numbers-back (bit i (number v 4)) own long (within-take (limits_in channel_table) (channels_limits n) own w))
    (channels-numbers-back v n (suc i) (rw next-own (within-drop (limits_in channel_table) (channels_limits n) own w)) ∙ next-own v i)
    ∙ take-append-drop (length channel_table) own

numbers-back : (v : List ℕ) → Within limits v → state_numbers (state_from v) ≡ v
unfolding state_numbers limits state_from
numbers-back v w =
    ap₂ (λ a b. a ++ b)
    (box-back v (omega (arith, within-length limits v w)) (within-take (limits_in box_table) (channels_limits 6) v w))
    (channels-numbers-back v 6 0 (within-drop (limits_in box_table) (channels_limits 6) v w))
    ∙ take-append-drop (length box_table) v

-- ---- which states keep 00h apart from the status bit

valid-apart : (s : State) → valid_of s ≡ true → StatusApart s
valid-apart s v =
    let control = s.registers.control in
    omega (arith, eqb-true (control_kept control) control (registers-parts s.registers (parts s v).registers).control)

loaded-apart : (v : List ℕ) → StatusApart (state_from v)
unfolding state_from registers_from
loaded-apart v = omega arith

pub round-trips : RoundTrips
round-trips =
    record { state-back = state-back; valid-apart = valid-apart; loaded-apart = loaded-apart; numbers-back = numbers-back }
