-- A record at the front of a string has at least two bytes, and what follows it is the end of the string.
use Prim.Native.Nat.{ℕ, suc, ◌+◌, ◌-◌, ◌≤◌}
use mathlib.Core.Path.{◌≡◌, refl, sym, ap, ◌∙◌, subst}
use mathlib.Core.Bool.{Bool, true, false, false≢true}
use mathlib.Core.List.{List, [], ◌∷◌}
use native.Mathlib.Omega.{arith}
use lib.ListN.{length, drop, length-drop}
use lib.Seq.{drop-drop}
use Rattle.strings.specs.Types.{Call, Group, Partial, Step, Found}
use Rattle.strings.specs.Group as group
use Rattle.strings.specs.Step.{More, Whole, Refused}
use Rattle.strings.specs.Found as found
use Rattle.strings.specs.Number.{group_of}
use Rattle.strings.specs.Record.{blank, kind_of, number_of, group_taken, step_of}
use Rattle.strings.proofs.Stages.{by_kind}
use Rattle.strings.specs.String.{Front, whole, end, refused, stepped, record_from, front_of, placed, record_at}

-- a string is so many bytes, at least `least`, and then the rest
pub record Ahead (least : ℕ) (string rest : List ℕ) : Type 0 where
  pub count : ℕ
  pub enough : least ≤ count
  pub within : count ≤ length string
  pub is : rest ≡ drop count string

abbrev pub is_whole : Front → Bool
is_whole (whole call rest) = true
is_whole end = false
is_whole (refused refusal) = false

abbrev pub rest_of : Front → List ℕ
rest_of (whole call rest) = rest
rest_of end = []
rest_of (refused refusal) = []

one_more : {least : ℕ} (byte : ℕ) {string rest : List ℕ} → Ahead least string rest → Ahead (suc least) (byte ∷ string) rest
one_more byte a = record { count = suc a.count; enough = omega (arith, a.enough); within = omega (arith, a.within); is = a.is }

-- a byte that does not make the record whole
abbrev unfinished : Step → Bool
unfinished (More p) = true
unfinished (Whole c) = false
unfinished (Refused refusal) = true

-- the first byte does not: it can only be a kind
kind-unfinished : (n : ℕ) → unfinished (kind_of n) ≡ true
kind-unfinished n = by_kind (λ t. unfinished t ≡ true) n (λ stage e. refl) refl

first-unfinished : (byte : ℕ) → unfinished (step_of blank byte) ≡ true
unfolding step_of number_of
first-unfinished byte = by (group_of 0 0 byte)
  where
    by : (g : Group) → unfinished (group_taken blank g) ≡ true
    by (group.More value) = refl
    by (group.Last n) = kind-unfinished n
    by (group.Refused refusal) = refl

module _ (call : Call) (rest : List ℕ) where
  pub from-ahead : (p : Partial) (string : List ℕ) → record_from p string ≡ whole call rest → Ahead 1 string rest
  unfolding record_from
  from-ahead p [] e = absurd (false≢true (ap is_whole e))
  from-ahead p (byte ∷ string) e = by (λ q h. from-ahead q string h) (step_of p byte) e
    where
      by : ((q : Partial) → record_from q string ≡ whole call rest → Ahead 1 string rest) →
          (t : Step) → stepped t string (λ q. record_from q string) ≡ whole call rest → Ahead 1 (byte ∷ string) rest
      by on (More q) h =
          let a = one_more byte (on q h) in
          record { count = a.count; enough = omega (arith, a.enough); within = a.within; is = a.is }
      by on (Whole c) h = record { count = 1; enough = omega arith; within = omega arith; is = sym (ap rest_of h) }
      by on (Refused refusal) h = absurd (false≢true (ap is_whole h))

  pub front-ahead : (string : List ℕ) → front_of string ≡ whole call rest → Ahead 2 string rest
  unfolding front_of record_from
  front-ahead [] e = absurd (false≢true (ap is_whole e))
  front-ahead (byte ∷ string) e = by (step_of blank byte) (first-unfinished byte) e
    where
      by : (t : Step) → unfinished t ≡ true → stepped t string (λ q. record_from q string) ≡ whole call rest → Ahead 2 (byte ∷ string) rest
      by (More q) o h = one_more byte (from-ahead q string h)
      by (Whole c) o h = absurd (false≢true o)
      by (Refused refusal) o h = absurd (false≢true (ap is_whole h))

-- ---- a record that was found at an index

pub record FoundAhead (string : List ℕ) (at : ℕ) (call : Call) (next : ℕ) : Type 0 where
  pub front : front_of (drop at string) ≡ whole call (drop next string)
  pub enough : at + 2 ≤ next
  pub within : next ≤ length string

abbrev asked : Found → List ℕ → ℕ → Type 0
asked (found.Record call next) string at = FoundAhead string at call next
asked found.End string at = front_of (drop at string) ≡ end
asked (found.Refused refusal) string at = front_of (drop at string) ≡ refused refusal

placed-ahead : (string : List ℕ) (at : ℕ) (f : Front) → front_of (drop at string) ≡ f → asked (placed (length string) f) string at
placed-ahead string at (whole call rest) e =
    let a = front-ahead call rest (drop at string) e in
    let long : length (drop at string) ≡ length string - at = length-drop at string in
    let over : at + a.count ≤ length string = omega (arith, a.enough, a.within, long) in
    let left : length rest ≡ length string - (at + a.count) =
    ap length (a.is ∙ drop-drop a.count at string) ∙ length-drop (at + a.count) string in
    let next : length string - length rest ≡ at + a.count = omega (arith, left, over) in
    record {
      front = e ∙ ap (whole call) (a.is ∙ drop-drop a.count at string ∙ ap (λ n. drop n string) (sym next));
      enough = omega (arith, next, a.enough);
      within = omega arith;
    }
placed-ahead string at end e = e
placed-ahead string at (refused refusal) e = e

module _ (string : List ℕ) (at : ℕ) (r : Found) (is : r ≡ record_at string at) where
  told : asked r string at
  unfolding record_at
  told = subst (λ x. asked x string at) (sym is) (placed-ahead string at (front_of (drop at string)) refl)

  pub record-ahead : (call : Call) (next : ℕ) → r ≡ found.Record call next → FoundAhead string at call next
  record-ahead call next e = subst (λ x. asked x string at) e told

  pub ended_here : r ≡ found.End → front_of (drop at string) ≡ end
  ended_here e = subst (λ x. asked x string at) e told

  pub refused-here : (refusal : ℕ) → r ≡ found.Refused refusal → front_of (drop at string) ≡ refused refusal
  refused-here refusal e = subst (λ x. asked x string at) e told
