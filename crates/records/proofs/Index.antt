-- The bytes of a record, one after the other: what is known at an index of the string, and what is found there.
use Prim.Native.Nat.{ℕ, ◌+◌, ◌-◌, ◌<◌, ◌≤◌}
use mathlib.Core.Path.{◌≡◌, sym, ◌∙◌, ap}
use mathlib.Core.List.{List}
use native.Mathlib.Numerals.{add-one}
use native.Mathlib.Nat.{add-zero}
use native.Mathlib.Omega.{arith}
use lib.ListN.{length, take, drop, get_or, drop_of_length-le, length-drop}
use lib.Seq.{drop-cons, take-length}
use Rattle.std.proofs.lemmas.List.{get_or-drop}
use Rattle.rules.specs.declared.Call.{Call}
use Rattle.strings.specs.Partial.{Partial}
use Rattle.strings.specs.Step.{Step}
use Rattle.strings.specs.Step.{More, Whole, Refused}
use Rattle.strings.specs.Found as found
use Rattle.strings.specs.Number.{string_ends}
use Rattle.strings.specs.Record.{blank, step_of}
use Rattle.strings.specs.String.{stepped, record_from, front_of, placed, record_at}

-- the part of a record that has been read up to i bytes after the index
abbrev pub ReadTo : List ℕ → ℕ → Partial → ℕ → Type 0
ReadTo string at p i = record_from p (drop (at + i) string) ≡ front_of (drop at string)

-- the string from the index on, as it is lent
abbrev rest : List ℕ → ℕ → List ℕ
rest string at = take (length string - at) (drop at string)

module _ (string : List ℕ) (at : ℕ) where
  pub at-end : length string ≤ at → found.End ≡ record_at string at
  unfolding record_at front_of
  at-end h = rw (drop_of_length-le string h)

  pub begins : (p : Partial) → p ≡ blank → at < length string → ReadTo string at p 0
  unfolding front_of
  begins p e h = rw (e, add-zero, drop-cons string at 0 h)

  rest-is : rest string at ≡ drop at string
  rest-is = ap (λ n. take n (drop at string)) (sym (length-drop at string)) ∙ take-length (drop at string)

  module _ (p : Partial) (i : ℕ) (read : ReadTo string at p i) where
    pub cut_off : at < length string → length (rest string at) ≤ i → found.Refused string_ends ≡ record_at string at
    unfolding record_at record_from
    cut_off l h =
        let left = rw (rest-is, length-drop) at h in
        let all : length string ≤ at + i = omega arith in
        ap (placed (length string)) (rw (drop_of_length-le string all) at read)

    module _ (h : i < length (rest string at)) where
      within : at + i < length string
      within = let l = rw (rest-is, length-drop) at h in omega arith

      stepped-to : (next : Step) → next ≡ step_of p (get_or (rest string at) i 0) →
          stepped next (drop (at + i + 1) string) (λ q. record_from q (drop (at + i + 1) string)) ≡ front_of (drop at string)
      unfolding record_from
      stepped-to next e =
          let byte : get_or (rest string at) i 0 ≡ get_or string (at + i) 0 = rw (rest-is, get_or-drop) in
          rw (e, byte, add-one (at + i)) (rw (drop-cons string (at + i) 0 within) at read)

      pub goes_on : (q : Partial) → More q ≡ step_of p (get_or (rest string at) i 0) → ReadTo string at q (i + 1)
      goes_on q e = let next : at + (i + 1) ≡ at + i + 1 = omega arith in rw next (stepped-to (More q) e)

      pub whole-at : (call : Call) → Whole call ≡ step_of p (get_or (rest string at) i 0) → found.Record call (at + i + 1) ≡ record_at string at
      unfolding record_at
      whole-at call e =
          let after : length string - length (drop (at + i + 1) string) ≡ at + i + 1 = simp length-drop (omega (arith, within)) in
          ap (found.Record call) (sym after) ∙ ap (placed (length string)) (stepped-to (Whole call) e)

      pub refused-at : (refusal : ℕ) → Refused refusal ≡ step_of p (get_or (rest string at) i 0) → found.Refused refusal ≡ record_at string at
      unfolding record_at
      refused-at refusal e = ap (placed (length string)) (stepped-to (Refused refusal) e)
