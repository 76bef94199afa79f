-- "Two-byte values have the high byte first": duties and counts, left-justified in a word of 16 bits.
use Rattle.std.specs.Prelude.{ℕ, ◌+◌, ◌-◌, ◌*◌, ◌/◌, ◌%◌, ◌^◌, ◌<◌, ◌≡◌, Bool, true, eqb, if◌then◌else◌}
use Rattle.rules.specs.Basics.{flag}

-- a number of so many bits, left-justified; what such a word shows; and whether it shows a number, its other bits being 0
abbrev pub left_justified : ℕ → ℕ → ℕ
left_justified width n = n % 2 ^ width * 2 ^ (16 - width)

abbrev pub shown_in : ℕ → ℕ → ℕ
shown_in width word = word / 2 ^ (16 - width) % 2 ^ width

abbrev pub shows : ℕ → ℕ → Bool
shows width word = eqb (word % 2 ^ (16 - width)) 0

-- "target duty, 9 bits", "target count, 11 bits", "tachometer counts, 11 bits": "Both left-justified"
abbrev pub duty_word : ℕ → ℕ
duty_word duty = left_justified 9 duty

abbrev pub word_duty : ℕ → ℕ
word_duty word = shown_in 9 word

abbrev pub count_word : ℕ → ℕ
count_word count = left_justified 11 count

abbrev pub word_count : ℕ → ℕ
word_count word = shown_in 11 word

-- "output duty, 9 bits, left-justified; bit 0 of the low byte reads 1 exactly at 511"
abbrev pub output_word : ℕ → ℕ
output_word duty = duty_word duty + flag (eqb (duty % 2 ^ 9) 511)

abbrev pub shows_output : ℕ → Bool
shows_output word = eqb (word % 2 ^ 7) (flag (eqb (word_duty word) 511))

-- the high or the low byte of a word
abbrev pub word_byte : Bool → ℕ → ℕ
word_byte low word = if low then word % 256 else word / 256

-- A number below the limit and the word that shows it convert both ways without loss.
pub record Lossless (limit : ℕ) (showing : ℕ → Bool) (to_word to_number : ℕ → ℕ) : Type 0 where
  pub word-shows : (n : ℕ) → n < limit → showing (to_word n) ≡ true
  pub word_fits : (n : ℕ) → n < limit → to_word n < 2 ^ 16
  pub number-back : (n : ℕ) → n < limit → to_number (to_word n) ≡ n
  pub word_back : (word : ℕ) → word < 2 ^ 16 → showing word ≡ true → to_word (to_number word) ≡ word
