-- A duty or a count and the register word that shows it convert both ways without loss.
use Prim.Native.Nat.{ℕ, ◌+◌, ◌-◌, ◌*◌, ◌/◌, ◌%◌, ◌^◌, ◌<◌, ◌≤◌}
use mathlib.Core.Path.{◌≡◌, sym, ◌∙◌, ap}
use mathlib.Core.Bool.{true, false}
use native.Mathlib.Nat.{mod-eq_of_lt, mod-mod, mod-lt, mul-mod_left, add-zero}
use native.Mathlib.Omega.{arith}
use lib.Dec.{eqb}
use lib.Pow.{pow_pos, shl-shr, shl_lt, recompose}
use borrow.Author.Tests.{eq-eqb, eqb-true}
use Rattle.rules.specs.Basics.{flag}
use Rattle.rules.specs.Words.{left_justified, shown_in, shows, duty_word, word_duty, count_word, word_count, output_word, shows_output, word_byte, Lossless}
use Rattle.rules.proofs.Tests.{flag-le}

-- over the width of the number, in a word of 16 bits
module _ (width : ℕ) (fits : width ≤ 16) where
  whole : 2 ^ (width + (16 - width)) ≡ 2 ^ 16
  whole = let e : width + (16 - width) ≡ 16 = omega arith in ap (λ n. 2 ^ n) e

  pub left-justified-lossless : Lossless (2 ^ width) (shows width) (left_justified width) (shown_in width)
  left-justified-lossless =
      record {
        word-shows = λ n h. eq-eqb _ 0 (mul-mod_left (n % 2 ^ width) (2 ^ (16 - width)));
        word_fits = λ n h. rw whole at (shl_lt width (16 - width) (mod-lt n (pow_pos width)));
        number-back = λ n h. rw shl-shr (mod-mod n (2 ^ width) ∙ mod-eq_of_lt h);
        word_back = λ word h e. again word (rw (← whole) at h) (eqb-true _ 0 e);
      }
    where
      again : (word : ℕ) → word < 2 ^ (width + (16 - width)) → word % 2 ^ (16 - width) ≡ 0 →
          left_justified width (shown_in width word) ≡ word
      again word h e =
          rw mod-mod (sym (add-zero _) ∙ ap (λ n. word / 2 ^ (16 - width) % 2 ^ width * 2 ^ (16 - width) + n) (sym e) ∙ recompose width (16 - width) h)

pub duty-lossless : Lossless 512 (shows 9) duty_word word_duty
duty-lossless = left-justified-lossless 9 (omega arith)

pub count-lossless : Lossless 2048 (shows 11) count_word word_count
count-lossless = left-justified-lossless 11 (omega arith)

-- the bit that an output duty has besides
abbrev full : ℕ → ℕ
full d = flag (eqb d 511)

full-small : (d : ℕ) → full d ≤ 1
full-small d = flag-le (eqb d 511)

-- it does not disturb the nine bits, nor they it
module _ (d : ℕ) where
  duty-beside : (d % 512 * 128 + full (d % 512)) / 128 % 512 ≡ d % 512
  duty-beside = omega (arith, full-small (d % 512))

  full-beside : (d % 512 * 128 + full (d % 512)) % 128 ≡ full (d % 512)
  full-beside = omega (arith, full-small (d % 512))

pub output-lossless : Lossless 512 shows_output output_word word_duty
output-lossless =
    record {
      word-shows = λ n h. eq-eqb _ _ (full-beside n ∙ ap full (sym (duty-beside n)));
      word_fits = λ n h. omega (arith, full-small (n % 512));
      number-back = λ n h. duty-beside n ∙ mod-eq_of_lt h;
      word_back = λ word h e. rw mod-mod (omega (arith, eqb-true (word % 128) (full (word / 128 % 512)) e));
    }

-- the two bytes of a word are the word
pub two_bytes : (word : ℕ) → word_byte false word * 256 + word_byte true word ≡ word
two_bytes word = omega arith
