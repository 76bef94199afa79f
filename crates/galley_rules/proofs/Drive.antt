-- The controller after a sample: its writes are accepted, and leave every target at the row's duty.
use Prim.Native.Nat.{ℕ, zero, suc, ◌+◌, ◌*◌, ◌≤◌, ◌<◌}
use mathlib.Core.Path.{◌≡◌, refl, sym, ◌∙◌, ap}
use mathlib.Core.Bool.{true, false}
use mathlib.Core.List.{List, [], ◌∷◌, ◌++◌}
use native.Mathlib.Numerals.{add-one}
use native.Mathlib.Omega.{arith}
use lib.Dec.{eqb, ltb}
use lib.IntN.{ℤ, pos}
use lib.ListN.{length, get_or, set, drop, replicate, length-map, length-set, drop_of_length-le}
use lib.Seq.{drop-cons}
use borrow.Author.Tests.{eq-eqb, ne_eqb, eqb-true, ltb-true}
use Rattle.rules.specs.declared.Channel.{Channel}
use Rattle.std.specs.Prelude.{if◌then◌else◌}
use Rattle.rules.specs.Basics.{every}
use Rattle.rules.specs.Words.{duty_word}
use Rattle.rules.specs.Calls.{accepted}
use Rattle.rules.specs.Valid.{valid_of}
use Rattle.rules.specs.Start.{start_of}
use Rattle.rules.specs.WriteWord.{write_word_of}
use Rattle.rules.specs.Make.{made, after_each, targets, target_call}
use Rattle.rules.proofs.Tests.{choice, every-at}
use Rattle.laws.proofs.Each.{length_before}
use Rattle.laws.proofs.Kept.{start-valid}
use Rattle.laws.proofs.Keep.{calls-keep, each_none, each_first, AllAccepted, accepted-none, accepted-first}
use Rattle.laws.proofs.Targets.{start-targets, target-call-is, target-call-accepted, target-call-set}
use Rattle.galley_rules.specs.Types.{State, Call, Galley}
use Rattle.galley_rules.specs.Temperature.{in_range, row_of}
use Rattle.galley_rules.specs.Galley.{valid_galley, fresh_of}
use Rattle.galley_rules.specs.Table.{are_tables, in_force, duty_of, row_duty}
use Rattle.galley_rules.specs.Sample.{row_after, calls_from, sample_refusal, sample_duty}
use Rattle.galley_rules.specs.Demands.{Driven}
use Rattle.galley_rules.proofs.Ladders.{sample-facts, accepted-state}

-- where every target is the duty no call is made
none-differs : (s : State) (duty n i : ℕ) → after_each s (calls_from duty i (replicate n duty)) ≡ s
unfolding calls_from
none-differs s duty zero i = each_none s
none-differs s duty (suc n) i = rw (eq-eqb duty duty refl) (none-differs s duty n (suc i))

-- a list that begins with so many times a number
set_next : (n x y : ℕ) (ts : List ℕ) → set (replicate n x ++ (y ∷ ts)) n x ≡ replicate n x ++ (x ∷ ts)
set_next zero x y ts = refl
set_next (suc n) x y ts = ap (λ l. x ∷ l) (set_next n x y ts)

one_more : (n x : ℕ) (ts : List ℕ) → replicate n x ++ (x ∷ ts) ≡ replicate (suc n) x ++ ts
one_more zero x ts = refl
one_more (suc n) x ts = ap (λ l. x ∷ l) (one_more n x ts)

long-front : (n x : ℕ) (ts : List ℕ) → length (replicate n x ++ ts) ≡ n + length ts
long-front zero x ts = omega arith
long-front (suc n) x ts = omega (arith, long-front n x ts)

nothing-after : (n x : ℕ) → replicate n x ++ [] ≡ replicate n x
nothing-after zero x = refl
nothing-after (suc n) x = ap (λ l. x ∷ l) (nothing-after n x)

module _ (duty : ℕ) (small : duty < 512) where
  counted : (s : State) (i : ℕ) (ts : List ℕ) → length s.channels ≡ 6 → targets s ≡ replicate i duty ++ ts → i + length ts ≡ 6
  counted s i ts six are = sym (long-front i duty ts) ∙ ap (λ l. length l) (sym are) ∙ length-map s.channels _ ∙ six

  abbrev Drives : State → List Call → Type 0
  Drives s calls = (targets (after_each s calls) ≡ replicate 6 duty) × AllAccepted s calls

  -- from a channel on, before which every target is the duty
  drives : (ts : List ℕ) (i : ℕ) (s : State) → valid_of s ≡ true → length s.channels ≡ 6 → targets s ≡ replicate i duty ++ ts →
      Drives s (calls_from duty i ts)
  unfolding calls_from
  drives [] i s v six are =
      let all : i ≡ 6 = omega (arith, counted s i [] six are) in
      (ap targets (each_none s) ∙ are ∙ nothing-after i duty ∙ ap (λ n. replicate n duty) all, accepted-none s)
  drives (t ∷ ts) i s v six are =
      choice (Drives s) (eqb t duty) _ _
      (λ same. drives ts (suc i) s v six (are ∙ ap (λ x. replicate i duty ++ (x ∷ ts)) (eqb-true t duty same) ∙ one_more i duty ts))
      (λ other.
      let call = target_call i duty in
      let next = (made s call).state in
      let below : i < 6 = omega (arith, counted s i (t ∷ ts) six are) in
      let told = target-call-set s i duty v below small in
      let long = sym (length-map next.channels _) ∙ ap (λ l. length l) told ∙ length-set (targets s) i duty ∙ length-map s.channels _ ∙ six in
      let rest = drives ts (suc i) next ((calls-keep s call).valid v) long
      (told ∙ ap (λ l. set l i duty) are ∙ set_next i duty t ts ∙ one_more i duty ts) in (
        ap targets (each_first s call (calls_from duty (suc i) ts)) ∙ rest.0,
        accepted-first s call (calls_from duty (suc i) ts) (target-call-accepted s i duty v below) rest.1,
      ))

-- a loop over the targets: what is left to do before and after the one with index i
module _ (duty : ℕ) (ts : List ℕ) where
  abbrev pub left_from : ℕ → List Call
  left_from i = calls_from duty i (drop i ts)

  left_here : (i : ℕ) → i < length ts →
      left_from i ≡ (if eqb (get_or ts i 0) duty then left_from (i + 1) else target_call i duty ∷ left_from (i + 1))
  unfolding calls_from
  left_here i h = rw add-one (ap (calls_from duty i) (drop-cons ts i 0 h))

  -- its target is written, by a word
  pub left-written : (s : State) (i : ℕ) → i < length ts → (get_or ts i 0 ≡ duty → ⊥) →
      after_each (write_word_of s (0x40 + 2 * i) (duty_word duty)).state (left_from (i + 1)) ≡ after_each s (left_from i)
  left-written s i h other =
      ap (λ s. after_each s (left_from (i + 1))) (target-call-is s i duty)
      ∙ sym (ap (after_each s) (rw (ne_eqb (get_or ts i 0) duty other) at (left_here i h)) ∙ each_first s (target_call i duty) (left_from (i + 1)))

  -- and leaves a valid state valid
  pub left-valid : (s : State) (i : ℕ) → valid_of s ≡ true → valid_of (write_word_of s (0x40 + 2 * i) (duty_word duty)).state ≡ true
  left-valid s i v = rw (target-call-is s i duty) ((calls-keep s (target_call i duty)).valid v)

  pub left-right : (s : State) (i : ℕ) → i < length ts → get_or ts i 0 ≡ duty → after_each s (left_from (i + 1)) ≡ after_each s (left_from i)
  left-right s i h same = sym (ap (after_each s) (rw (eq-eqb (get_or ts i 0) duty same) at (left_here i h)))

  pub left-none : (s : State) (i : ℕ) → length ts ≤ i → after_each s (left_from i) ≡ s
  unfolding calls_from
  left-none s i h = ap (λ l. after_each s (calls_from duty i l)) (drop_of_length-le ts {i = i} h) ∙ each_none s

-- a byte of a table is no duty above full
duty-small : (v : ℕ) → ltb v 256 ≡ true → duty_of v < 512
duty-small v byte = choice (λ n. n < 512) (eqb v 0xFF) 511 (2 * v) (λ full. omega arith) (λ other. omega (arith, ltb-true v 256 byte))

row-duty-small : (table : List ℕ) (row : ℕ) → every (λ v. ltb v 256) table ≡ true → row_duty table row < 512
unfolding row_duty
row-duty-small table row bytes = duty-small (get_or table row 0) (every-at (λ v. ltb v 256) table row 0 refl bytes)

module _ (g : Galley) (s : State) (t : ℤ) (normal quiet : List ℕ) where
  -- tables are of bytes, and there are six channels, by their types
  pub driven : sample_refusal g s t normal quiet ≡ accepted → length s.channels ≡ 6 →
      every (λ v. ltb v 256) (in_force g.quiet normal quiet) ≡ true → Driven g s t normal quiet
  driven fine six bytes =
      let duty = sample_duty g s t normal quiet in
      let after = accepted-state g s t normal quiet fine in
      let all = drives duty (row-duty-small _ _ bytes) (targets s) 0 s (sample-facts g s t normal quiet fine).1 six refl in
      record {
        at-duty = ap targets after ∙ all.0;
        one_by_one = after;
        each-accepted = all.1;
        not-fed = λ same. after ∙ ap (λ ts. after_each s (calls_from duty 0 ts)) same ∙ none-differs s duty 6 0;
      }

-- a box as at start with its watchdog on, a fresh galley, and a sample that changes every target
pub driven-example :
    let s = (start_of 1 1 300 0x11 0).state in
    let g = (fresh_of (pos 640) (pos 720) false true).galley in
    let table : List ℕ = replicate 48 100 in
    (sample_refusal g s (pos 320) table table ≡ accepted) × (length s.channels ≡ 6) × (every (λ v. ltb v 256) table ≡ true)
    × (sample_duty g s (pos 320) table table ≡ 200) × (targets s ≡ replicate 6 300)
unfolding fresh_of in_range sample_refusal valid_galley are_tables row_duty row_after row_of
driven-example =
    let set = start-targets 1 1 300 0x11 0 (omega arith) (omega arith) (omega arith) (omega arith) in
    (rw (start-valid 1 1 300 0x11 0) refl, length_before Channel ℕ (λ ch. ch.target) (start_of 1 1 300 0x11 0).state.channels 6 (ap (λ l. length l) set), refl, refl, set)
