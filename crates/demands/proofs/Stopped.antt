-- A fan that has stopped fails: results that are all stored as 2,047 set the fault bit and assert FAN_FAIL, whatever the target count and the queue
-- code.
use Prim.Native.Nat.{ℕ, zero, suc, ◌+◌, ◌≤◌, ◌<◌}
use mathlib.Core.Path.{◌≡◌, refl, ◌∙◌, ap}
use mathlib.Core.Bool.{Bool, true, false, not, ◌&&◌}
use mathlib.Core.List.{List, [], ◌∷◌, map}
use native.Mathlib.Omega.{arith}
use lib.Dec.{leb, eqb}
use lib.ListN.{length, get_or, take, replicate}
use borrow.Author.Tests.{le-leb, leb-true, eqb-true}
use Rattle.demands.specs.Types.{Channel, State}
use Rattle.rules.specs.Basics.{every, some}
use Rattle.rules.specs.State.{channel, registers, with_settings, with_registers, with_channels}
use Rattle.rules.specs.Registers.{queue_code, masked}
use Rattle.rules.specs.Duty.{conditions_of, override_by, output_duty}
use Rattle.rules.specs.Valid.{valid_channel, valid_pulses, valid_registers, valid_start, valid_timer, valid_of}
use Rattle.rules.specs.Tachometer.{queue_length, stored_count, judged, is_bad, result_of}
use Rattle.rules.specs.FanFail.{failed, fan_fail_of}
use Rattle.rules.specs.Make.{made, after_each}
use Rattle.rules.proofs.Tests.{by-test, and_left, and_right, all-below}
use Rattle.rules.proofs.Tachometer.{bad-at-2047}
use Rattle.laws.proofs.Each.{map_at}
use Rattle.laws.proofs.Keep.{each-valid}
use Rattle.laws.proofs.Results.{result-no-access}
use Rattle.demands.specs.Trials.{after_results}
use Rattle.demands.proofs.Queue.{Ready, fault_after, runs, bad-row}
use Rattle.demands.proofs.Trials.{steady}

-- ---- its results

stopped-results : (ch : Channel) (counts : List ℕ) → every (leb 2047) counts ≡ true →
    map (λ n. is_bad ch (stored_count n)) counts ≡ replicate (length counts) true
stopped-results ch [] e = refl
stopped-results ch (count ∷ counts) e =
    let full : stored_count count ≡ 2047 = omega (arith, leb-true 2047 count (and_left _ _ e)) in
    rw (full, bad-at-2047 ch) (ap (λ bads. true ∷ bads) (stopped-results ch counts (and_right (leb 2047 count) _ e)))

registers-stay : (s : State) (i : ℕ) (counts : List ℕ) → (after_results s i counts).registers ≡ s.registers
unfolding made after_each
registers-stay s i [] = refl
registers-stay s i (count ∷ counts) =
    registers-stay (result_of s (i + 1) count).state i counts ∙ (result-no-access s (i + 1) count).registers

-- ---- FAN_FAIL of a channel that has failed

-- a test that holds of one element holds of some element
some_at : {A : Type 0} (test : A → Bool) (xs : List A) (i : ℕ) (d : A) → i < length xs → test (get_or xs i d) ≡ true → some test xs ≡ true
some_at test [] i d h e = absurd (omega arith)
some_at test (x ∷ xs) zero d h e = rw e refl
some_at test (x ∷ xs) (suc i) d h e = by-test (test x) (λ t. rw t refl) (λ t. rw t (some_at test xs i d (omega arith) e))

abbrev six : List ℕ
six = 0 ∷ 1 ∷ 2 ∷ 3 ∷ 4 ∷ 5 ∷ []

one-failed : (s : State) (i : ℕ) → i < 6 → (channel s i).fault ≡ true → masked s.registers.mask1 i ≡ false → some (λ b. b) (failed s) ≡ true
one-failed s i below fault clear =
    let itself = eqb-true (get_or six i 0) i (all-below 6 (λ k. eqb (get_or six k 0) k) refl i below) in
    let at_i = map_at (λ k. (channel s k).fault && not (masked s.registers.mask1 k)) six i 0 false (omega (arith, below)) in
    some_at (λ b. b) (failed s) i false (omega (arith, below)) (at_i ∙ rw (itself, fault, clear) refl)

-- ---- the fan

-- counts of at least 2,047, and a queue count below the queue length
module _ (s : State) (i most queue : ℕ) (counts : List ℕ) (c : Ready s i most queue) (short : queue < most) (stopped : every (leb 2047) counts ≡ true) where
  -- the fault bit comes with the result that brings the queue count to that length
  pub stopped-fan-fails : (channel (after_results s i counts) i).fault ≡ leb most (queue + length counts)
  stopped-fan-fails =
      let is : queue_length (queue_code s.registers.options) ≡ most = c.length-is in
      runs s i most queue counts c
      ∙ ap (fault_after most queue) (stopped-results (channel s i) counts stopped)
      ∙ (rw is at (bad-row (queue_code s.registers.options) queue (length counts) (rw is short)))

  -- and FAN_FAIL is asserted then, if the channel's mask bit is clear
  pub stopped-fan-told : masked s.registers.mask1 i ≡ false → most ≤ queue + length counts → (fan_fail_of (after_results s i counts)).asserted ≡ true
  unfolding fan_fail_of
  stopped-fan-told clear enough =
      let after = after_results s i counts in
      let fault = stopped-fan-fails ∙ le-leb most (queue + length counts) enough in
      let unmasked = ap (λ x. masked x.mask1 i) (registers-stay s i counts) ∙ clear in
      rw (each-valid s _ c.one-of-six.is-valid) (one-failed after i c.one-of-six.below fault unmasked)

-- a box as K3 tells of it: that of the trials with target count 2,047 and no fan masked; its queue length is 4
abbrev seized : State
seized =
    let ch = channel steady 0 in
    with_channels (with_registers steady (registers 0x20 0 0x3F 0x00 0x46))
    (replicate 6 (with_settings ch ch.config ch.dynamics ch.window ch.target 2047))

seized-begins : Ready seized 0 4 0 × (masked seized.registers.mask1 0 ≡ false)
unfolding valid_of valid_registers valid_start valid_timer valid_channel valid_pulses conditions_of override_by output_duty judged queue_length
seized-begins = (
  record {
    one-of-six = record { is-valid = refl; six = refl; below = omega arith };
    enabled = refl;
    judged-is = refl;
    length-is = refl;
    no-fault = refl;
    queue-is = refl;
  },
  refl,
)

abbrev four_counts : List ℕ
four_counts = 2047 ∷ 2048 ∷ 4294967295 ∷ 5000 ∷ []

-- three results are not enough, and the fourth is
pub seized-examples : ((channel (after_results seized 0 (take 3 four_counts)) 0).fault ≡ false) × ((fan_fail_of (after_results seized 0 four_counts)).asserted ≡ true)
seized-examples = (
  stopped-fan-fails seized 0 4 0 (take 3 four_counts) seized-begins.0 (omega arith) refl,
  stopped-fan-told seized 0 4 0 four_counts seized-begins.0 (omega arith) refl seized-begins.1 (omega arith),
)
