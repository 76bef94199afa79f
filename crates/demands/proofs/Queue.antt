-- Results of one channel, one after the other: when its fault bit comes, for every queue code.
use Prim.Native.Nat.{ℕ, zero, suc, ◌+◌, ◌-◌, ◌<◌, ◌≤◌, min}
use mathlib.Core.Path.{◌≡◌, refl, sym, ◌∙◌, ap}
use mathlib.Core.Bool.{Bool, true, false, not, ◌&&◌, ◌||◌}
use mathlib.Core.List.{List, [], ◌∷◌, map}
use native.Mathlib.Omega.{arith}
use lib.Dec.{leb, ltb, eqb}
use lib.ListN.{length, get_or, set, replicate, length-set}
use lib.Seq.{get_or-set_same}
use borrow.Author.Tests.{le-leb, lt-leb, leb-true, leb-false}
use Rattle.demands.specs.Types.{Channel, Results, State, Conditions, Option, None, Some}
use Rattle.std.specs.Prelude.{if◌then◌else◌}
use Rattle.rules.specs.Basics.{some}
use Rattle.rules.specs.State.{blank, channel, results, results_of, with_results}
use Rattle.rules.specs.Registers.{monitor_only, tachometer_enabled, queue_code}
use Rattle.rules.specs.Duty.{conditions_of, override_of, duty_under, output_duty}
use Rattle.rules.specs.Tachometer.{queue_length, stored_count, judged, is_bad, bad_result, good_result, result_taken, channel_result, with_result, result_of}
use Rattle.rules.specs.Make.{made, after_each}
use Rattle.demands.specs.Trials.{OneOfSix, after_results}
use Rattle.rules.proofs.Tests.{by-test, choice, all-below, every-at}
use Rattle.laws.proofs.Results.{result-valid}

-- ---- one result

module _ (s : State) (i count : ℕ) (o : OneOfSix s i) where
  abbrev length-in-force : ℕ
  length-in-force = queue_length (queue_code s.registers.options)

  pub result-at : (result_of s (i + 1) count).state ≡ with_result s i count
  unfolding result_of
  result-at =
      let back : i + 1 - 1 ≡ i = omega arith in
      rw (o.is-valid, le-leb 1 (i + 1) (omega arith), le-leb (i + 1) 6 (omega (arith, o.below)), back) refl

  -- the channel after it, and the rest of six
  pub channel-after : channel (result_of s (i + 1) count).state i ≡ channel_result (conditions_of s) length-in-force (channel s i) count
  channel-after =
      ap (λ x. channel x i) result-at ∙ get_or-set_same s.channels i _ blank (omega (arith, o.below, o.six))

  pub still-six : OneOfSix (result_of s (i + 1) count).state i
  still-six =
      record {
        is-valid = result-valid s o.is-valid (i + 1) count;
        six = ap (λ (x : State). length x.channels) result-at ∙ length-set s.channels i _ ∙ o.six;
        below = o.below;
      }

-- ---- results one after the other

-- no result clears a fault bit
taken-keeps-fault : (enabled is_judged bad : Bool) (most stored : ℕ) (r : Results) → r.fault ≡ true →
    (result_taken enabled is_judged bad most stored r).fault ≡ true
unfolding result_taken
taken-keeps-fault enabled is_judged bad most stored r e =
    choice (λ (x : Results). x.fault ≡ true) (not enabled) _ _ (λ _. e) λ _.
    choice (λ (x : Results). x.fault ≡ true) (not is_judged) _ _ (λ _. e) λ _.
    choice (λ (x : Results). x.fault ≡ true) bad _ _ (λ _. rw e refl) (λ _. e)

fault-stays : (s : State) (i : ℕ) (counts : List ℕ) → OneOfSix s i → (channel s i).fault ≡ true → (channel (after_results s i counts) i).fault ≡ true
unfolding made after_each
fault-stays s i [] o e = e
fault-stays s i (count ∷ counts) o e =
    fault-stays (result_of s (i + 1) count).state i counts (still-six s i count o)
    (ap (λ (x : Channel). x.fault) (channel-after s i count o) ∙ (unfold channel_result in taken-keeps-fault _ _ _ _ _ (results_of (channel s i)) e))

-- the fault bit after judged results, from a clear one and a queue count
abbrev pub fault_after : ℕ → ℕ → List Bool → Bool
fault_after most queue [] = false
fault_after most queue (true ∷ results) = if leb most (min (queue + 1) 6) then true else fault_after most (min (queue + 1) 6) results
fault_after most queue (false ∷ results) = fault_after most 0 results

-- a channel whose results are judged, its fault bit clear
pub record Ready (s : State) (i most queue : ℕ) : Type 0 where
  pub one-of-six : OneOfSix s i
  pub enabled : tachometer_enabled (channel s i).config ≡ true
  pub judged-is : judged (conditions_of s) (channel s i) ≡ true
  pub length-is : queue_length (queue_code s.registers.options) ≡ most
  pub no-fault : (channel s i).fault ≡ false
  pub queue-is : (channel s i).queue ≡ queue

pub some-set : {A : Type 0} (test : A → Bool) (xs : List A) (i : ℕ) (y d : A) → test y ≡ test (get_or xs i d) → some test (set xs i y) ≡ some test xs
some-set test [] i y d e = refl
some-set test (x ∷ xs) zero y d e = ap (λ b. b || some test xs) e
some-set test (x ∷ xs) (suc i) y d e = ap (λ b. test x || b) (some-set test xs i y d e)

duty-same : (o : Option ℕ) (ch : Channel) (r : Results) → duty_under o (with_results ch r) ≡ duty_under o ch
duty-same None ch r = refl
duty-same (Some d) ch r = refl

judged-same : (k : Conditions) (ch : Channel) (r : Results) → r.fault ≡ ch.fault → judged k (with_results ch r) ≡ judged k ch
unfolding judged output_duty
judged-same k ch r e =
    rw e (ap (λ d. not k.standby && eqb ch.spin 0 && (monitor_only ch.config || ltb 0 d)) (duty-same (override_of k ch) ch (results r.count r.queue ch.fault)))

module _ (s : State) (i most queue count : ℕ) (c : Ready s i most queue) where
  abbrev next : State
  next = (result_of s (i + 1) count).state

  bad-next : is_bad (channel s i) (stored_count count) ≡ true → channel next i ≡ with_results (channel s i) (bad_result most (stored_count count) (results_of (channel s i)))
  unfolding channel_result result_taken
  bad-next bad = channel-after s i count c.one-of-six ∙ rw (c.enabled, c.judged-is, bad, c.length-is) refl

  good-next : is_bad (channel s i) (stored_count count) ≡ false → channel next i ≡ with_results (channel s i) (good_result (stored_count count) (results_of (channel s i)))
  unfolding channel_result result_taken
  good-next good = channel-after s i count c.one-of-six ∙ rw (c.enabled, c.judged-is, good) refl

  module _ (after : Results) (is : channel next i ≡ with_results (channel s i) after) (clear : after.fault ≡ false) where
    same-conditions : conditions_of next ≡ conditions_of s
    unfolding conditions_of
    same-conditions =
        let told = sym (channel-after s i count c.one-of-six) ∙ is in
        ap conditions_of (result-at s i count c.one-of-six)
        ∙ rw (some-set (λ (ch : Channel). ch.fault) s.channels i (channel_result (conditions_of s) (length-in-force s i count c.one-of-six) (channel s i) count) blank (ap (λ (ch : Channel). ch.fault) told ∙ clear ∙ sym c.no-fault)) refl

    ready-next : Ready next i most after.queue
    ready-next =
        record {
          one-of-six = still-six s i count c.one-of-six;
          enabled = ap (λ (x : Channel). tachometer_enabled x.config) is ∙ c.enabled;
          judged-is = rw (same-conditions, is) (judged-same (conditions_of s) (channel s i) after (clear ∙ sym c.no-fault) ∙ c.judged-is);
          length-is = ap (λ (x : State). queue_length (queue_code x.registers.options)) (result-at s i count c.one-of-six) ∙ c.length-is;
          no-fault = rw is clear;
          queue-is = rw is refl;
        }

    same-judgement : (counts : List ℕ) →
        map (λ n. is_bad (channel next i) (stored_count n)) counts ≡ map (λ n. is_bad (channel s i) (stored_count n)) counts
    unfolding is_bad
    same-judgement counts = rw is refl

-- the fault bit of the channel after any judged results, whatever the queue code
pub runs : (s : State) (i most queue : ℕ) (counts : List ℕ) → Ready s i most queue →
    (channel (after_results s i counts) i).fault ≡ fault_after most queue (map (λ n. is_bad (channel s i) (stored_count n)) counts)
unfolding made after_each
runs s i most queue [] c = c.no-fault
runs s i most queue (count ∷ rest) c =
    by-test (is_bad (channel s i) (stored_count count))
    (λ bad. let is = bad-next s i most queue count c bad in
    let fault : ((channel s i).fault || leb most (min ((channel s i).queue + 1) 6)) ≡ leb most (min (queue + 1) 6) = rw (c.no-fault, c.queue-is) refl in
    let count-is : min ((channel s i).queue + 1) 6 ≡ min (queue + 1) 6 = rw c.queue-is refl in
    by-test (leb most (min (queue + 1) 6))
    (λ full. rw (bad, full)
    (fault-stays (result_of s (i + 1) count).state i rest (still-six s i count c.one-of-six) (ap (λ (x : Channel). x.fault) is ∙ fault ∙ full)))
    (λ short. rw (bad, short)
    (runs (result_of s (i + 1) count).state i most (min (queue + 1) 6) rest
    (rw count-is at (ready-next s i most queue count c _ is (fault ∙ short)))
    ∙ ap (fault_after most (min (queue + 1) 6)) (same-judgement s i most queue count c _ is (fault ∙ short) rest))))
    (λ good. let is = good-next s i most queue count c good in
    rw good
    (runs (result_of s (i + 1) count).state i most 0 rest (ready-next s i most queue count c _ is c.no-fault)
    ∙ ap (fault_after most 0) (same-judgement s i most queue count c _ is c.no-fault rest)))

-- ---- a row of bad results

-- no queue is longer than the queue count can grow, and every code has one
pub queue-length-le : (code : ℕ) → queue_length code ≤ 6
unfolding queue_length
queue-length-le code = leb-true _ 6 (every-at (λ most. leb most 6) (1 ∷ 2 ∷ 4 ∷ 6 ∷ []) code 0 refl refl)

pub queue-length-pos : (code : ℕ) → code < 4 → 0 < queue_length code
unfolding queue_length
queue-length-pos code h = leb-true 1 _ (all-below 4 (λ k. leb 1 (queue_length k)) refl code h)

-- from a queue count below the queue length, the fault bit comes with the bad result that brings the count to that length
pub bad-row : (code queue n : ℕ) → queue < queue_length code →
    fault_after (queue_length code) queue (replicate n true) ≡ leb (queue_length code) (queue + n)
bad-row code queue zero h = sym (lt-leb (queue_length code) (queue + 0) (omega arith))
bad-row code queue (suc n) h =
    let most = queue_length code in
    by-test (leb most (min (queue + 1) 6))
    (λ full. rw full (sym (le-leb most (queue + suc n) (omega (arith, leb-true most _ full)))))
    (λ short. let below = leb-false most (min (queue + 1) 6) short in
    let moved : min (queue + 1) 6 + n ≡ queue + suc n = omega (arith, queue-length-le code, below) in
    rw short (bad-row code (min (queue + 1) 6) n (omega (arith, below)) ∙ ap (leb most) moved))
