-- Runs of blanks and of other bytes: blanks before the words change nothing, and the run after them is the first word.
use Prim.Native.Nat.{ℕ, suc, ◌+◌, ◌-◌, ◌≤◌, ◌<◌}
use mathlib.Core.Path.{◌≡◌, refl, sym, ap, ◌∙◌}
use mathlib.Core.Bool.{Bool, true, false, beq}
use mathlib.Core.List.{List, [], ◌∷◌}
use native.Mathlib.Omega.{arith}
use lib.ListN.{length, get_or, take, drop, length-drop, drop_of_length-le}
use lib.Seq.{drop-cons, drop-drop}
use lib.Dec.{ltb, eqb}
use borrow.Author.Tests.{lt-ltb, le-ltb}
use native.Mathlib.Decide.{dec_lt}
use Rattle.std.specs.Bool.{then_some}
use Rattle.rules.proofs.Tests.{by-test}
use Rattle.console_text.specs.Words.{counted, is_blank, words_of, run_of, lengthened, Finds}
use Rattle.std.specs.Prelude.{Some, None}

pub run_more : (blank : Bool) (byte : ℕ) (line : List ℕ) → beq (is_blank byte) blank ≡ true → run_of blank (byte ∷ line) ≡ suc (run_of blank line)
unfolding run_of
run_more blank byte line e = rw e (omega arith)

pub run_ends : (blank : Bool) (byte : ℕ) (line : List ℕ) → beq (is_blank byte) blank ≡ false → run_of blank (byte ∷ line) ≡ 0
unfolding run_of
run_ends blank byte line e = rw e

pub run_none : (blank : Bool) → run_of blank [] ≡ 0
unfolding run_of
run_none blank = refl

pub run-within : (blank : Bool) (line : List ℕ) → run_of blank line ≤ length line
run-within blank [] = rw (run_none blank) (omega arith)
run-within blank (byte ∷ line) =
    by-test (beq (is_blank byte) blank)
    (λ e. rw (run_more blank byte line e) (omega (arith, run-within blank line)))
    (λ e. rw (run_ends blank byte line e) (omega arith))

blank-first : (byte : ℕ) (line : List ℕ) → is_blank byte ≡ true → words_of (byte ∷ line) ≡ words_of line
unfolding words_of
blank-first byte line e = rw e

like : (b : Bool) {c : Bool} → b ≡ c → beq b c ≡ true
like true e = rw (sym e)
like false e = rw (sym e)

pub blanks-skipped : (line : List ℕ) → words_of line ≡ words_of (drop (run_of true line) line)
blanks-skipped [] = rw (run_none true)
blanks-skipped (byte ∷ line) =
    by-test (is_blank byte)
    (λ e. rw (run_more true byte line (like _ e)) (blank-first byte line e ∙ blanks-skipped line))
    (λ e. rw (run_ends true byte line (rw e)))

-- after the blanks comes another byte, or the line ends
pub after-blanks : (line : List ℕ) (byte : ℕ) (rest : List ℕ) → drop (run_of true line) line ≡ byte ∷ rest → is_blank byte ≡ false
after-blanks [] byte rest e = let n = rw (run_none true) at e in cc
after-blanks (next ∷ line) byte rest e =
    by-test (is_blank next)
    (λ t. after-blanks line byte rest (rw (run_more true next line (like _ t)) at e))
    (λ f.
    let n = rw (run_ends true next line (rw f)) at e in
    let q : byte ≡ next = cc in
    rw q f)

last_byte : (byte : ℕ) → is_blank byte ≡ false → words_of (byte ∷ []) ≡ (byte ∷ []) ∷ words_of []
unfolding words_of
last_byte byte e = rw e

word-ends : (byte next : ℕ) (line : List ℕ) → is_blank byte ≡ false → is_blank next ≡ true →
    words_of (byte ∷ next ∷ line) ≡ (byte ∷ []) ∷ words_of (next ∷ line)
unfolding words_of
word-ends byte next line e t = rw (e, t)

word-goes-on : (byte next : ℕ) (line : List ℕ) → is_blank byte ≡ false → is_blank next ≡ false →
    words_of (byte ∷ next ∷ line) ≡ lengthened byte (words_of (next ∷ line))
unfolding words_of
word-goes-on byte next line e f = rw (e, f)

-- the first word is what comes before the next blank
pub first_word : (byte : ℕ) (line : List ℕ) → is_blank byte ≡ false →
    words_of (byte ∷ line) ≡ take (run_of false (byte ∷ line)) (byte ∷ line) ∷ words_of (drop (run_of false (byte ∷ line)) (byte ∷ line))
first_word byte [] e = rw (run_more false byte [] (like _ e), run_none false) (last_byte byte e)
first_word byte (next ∷ line) e =
    by-test (is_blank next)
    (λ t. rw (run_more false byte (next ∷ line) (like _ e), run_ends false next line (rw t)) (word-ends byte next line e t))
    (λ f.
    rw (run_more false byte (next ∷ line) (like _ e))
    (word-goes-on byte next line e f ∙ ap (lengthened byte) (first_word next line f)))

-- ---- the first word from an index on
module _ (line : List ℕ) (from begin : ℕ) (skipped : begin ≡ from + run_of true (drop from line)) where
  from-begin : drop (run_of true (drop from line)) (drop from line) ≡ drop begin line
  from-begin = rw (drop-drop, skipped)

  same-words : words_of (drop from line) ≡ words_of (drop begin line)
  same-words = blanks-skipped (drop from line) ∙ ap words_of from-begin

  pub finds-nothing : length line ≤ begin → Finds line from None
  unfolding words_of
  finds-nothing h = record { words = same-words ∙ rw (drop_of_length-le line h); lies = tt }

  module _ (within : begin < length line) where
    not-blank : is_blank (get_or line begin 0) ≡ false
    not-blank = after-blanks (drop from line) _ _ (from-begin ∙ drop-cons line begin 0 within)

    word_first : words_of (drop begin line) ≡
        take (run_of false (drop begin line)) (drop begin line) ∷ words_of (drop (run_of false (drop begin line)) (drop begin line))
    word_first = rw (drop-cons line begin 0 within) (first_word _ _ not-blank)

    some_byte : 0 < run_of false (drop begin line)
    some_byte = rw (drop-cons line begin 0 within, run_more false _ (drop (suc begin) line) (like _ not-blank)) (omega arith)

    pub finds-word : (end : ℕ) → end ≡ begin + run_of false (drop begin line) → Finds line from (Some (record { begin = begin; end = end }))
    finds-word end e =
        let run : end - begin ≡ run_of false (drop begin line) = omega arith in
        record {
          words = same-words ∙ rw (run, e, ← drop-drop (run_of false (drop begin line)) begin line) word_first;
          lies = (omega arith, omega (arith, some_byte), omega (arith, run-within false (drop begin line), length-drop begin line));
        }

  -- nothing goes on after the line's end
  pub finds-next : (end : ℕ) → end ≡ begin + run_of false (drop begin line) →
      Finds line from (then_some (ltb begin end) (record { begin = begin; end = end }))
  finds-next end e =
      elim (dec_lt begin (length line)) [
        | yes l ↦
            let found = finds-word l end e in
            rw (lt-ltb begin end found.lies.1) found
        | no g ↦
            let none = rw (drop_of_length-le line {i = begin} (omega arith), run_none false) at e in
            rw (le-ltb begin end (omega arith)) (finds-nothing (omega arith))
      ]

-- no more of a line counts than there is
pub counted-within : (line : List ℕ) → counted line ≤ length line
unfolding counted
counted-within line = by-test (eqb (get_or line (length line - 1) 0) 13) (λ t. rw t (omega arith)) (λ f. rw f (omega arith))
