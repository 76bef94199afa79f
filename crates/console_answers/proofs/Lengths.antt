-- The texts of a reading and of a speed, part by part, and how long they are.
use Prim.Native.Nat.{ℕ, ◌+◌, ◌*◌, ◌≤◌, ◌<◌}
use mathlib.Core.Path.{◌≡◌, refl}
use mathlib.Core.Bool.{false}
use mathlib.Core.List.{List, [], ◌∷◌, ◌++◌}
use native.Mathlib.Numerals.{add-one}
use native.Mathlib.Omega.{arith}
use lib.ListN.{length, get_or, drop, drop_of_length-le, length-append}
use lib.Seq.{drop-cons}
use lib.Ieee.{Float, binary64, of_bits, round}
use Rattle.std.specs.Prelude.{Result, Ok, Err}
use Rattle.rules.specs.declared.refusal.Refusal.{Refusal}
use Rattle.rules.specs.declared.Reading.{Reading}
use Rattle.rules.specs.declared.Speed.{Speed}
use Rattle.rules.specs.declared.Speed.TheVariants.{Rpm, Stopped, TooFast}
use Rattle.rules.specs.Reading.{over512}
use Rattle.console_text.specs.Fraction.{parts_of, nine_decimals}
use Rattle.console_text.proofs.Lengths.{digits-length, nine-length}
use Rattle.console_outcome.proofs.Lines.{plain-length}
use Rattle.console_answers.specs.Texts.{spaced_parts, reading_text, reading_most, cabin_text, cabin_most, speed_line, speed_most}

module _ (parts : List Float) (i : ℕ) (d : Float) where
  pub parts_next : i < length parts →
      spaced_parts (drop i parts) ≡ (32 ∷ nine_decimals (parts_of (get_or parts i d))) ++ spaced_parts (drop (i + 1) parts)
  unfolding spaced_parts
  parts_next h = rw (add-one, drop-cons parts i d h)

  pub parts-end : length parts ≤ i → spaced_parts (drop i parts) ≡ []
  unfolding spaced_parts
  parts-end h = rw (drop_of_length-le parts h)

parts-length : (parts : List Float) → length (spaced_parts parts) ≤ length parts * 21
unfolding spaced_parts
parts-length [] = omega arith
parts-length (x ∷ parts) = rw length-append (omega (arith, nine-length (parts_of x), parts-length parts))

-- no 512ths
pub nothing-over512 : over512 0 ≡ of_bits binary64 0
unfolding over512 round of_bits
nothing-over512 = refl

-- a reading is seven parts
pub reading-length : (r : Reading) → length r.shares ≡ 6 → length (reading_text r) ≤ reading_most
reading-length r six = omega (arith, parts-length (r.seconds ∷ r.shares))

pub cabin-length : (refusal : ℕ) (r : Reading) → length (reading_text r) ≤ reading_most → length (cabin_text refusal r) ≤ cabin_most
unfolding cabin_text
cabin-length refusal r h = rw (length-append, length-append) (omega (arith, digits-length 1 refusal))

pub speed-length : (speed : Result Speed Refusal) → length (speed_line speed) ≤ speed_most
unfolding speed_line
speed-length (Ok (Rpm n)) = plain-length false _
speed-length (Ok Stopped) = omega arith
speed-length (Ok TooFast) = omega arith
speed-length (Err refusal) = plain-length false _
