-- Masks against the bits that the definitions name, by a test of every byte.
use Rattle.std.specs.Prelude.{◌≡◌, ℕ, ◌<◌, Bool, true, not, eqb, bit_and, refl}
use mathlib.Core.Bool.{beq}
use borrow.Author.Tests.{eqb-true}
use Rattle.rules.specs.Registers.{control_kept, options_kept, config_refused}
use Rattle.rules.proofs.Tests.{all_below, all-below, same}

numbers : (f g : ℕ → ℕ) → all_below 256 (λ b. eqb (f b) (g b)) ≡ true → (b : ℕ) → b < 256 → f b ≡ g b
numbers f g e b h = eqb-true (f b) (g b) (all-below 256 (λ b. eqb (f b) (g b)) e b h)

flags : (f g : ℕ → Bool) → all_below 256 (λ b. beq (f b) (g b)) ≡ true → (b : ℕ) → b < 256 → f b ≡ g b
flags f g e b h = same (f b) (g b) (all-below 256 (λ b. beq (f b) (g b)) e b h)

pub config_refused_bits : (b : ℕ) → b < 256 → not (eqb (bit_and b 0x85) 0) ≡ config_refused b
config_refused_bits = flags _ _ refl

pub control_kept_bits : (b : ℕ) → b < 256 → bit_and b 0xAE ≡ control_kept b
control_kept_bits = numbers _ _ refl

pub options_kept_bits : (b : ℕ) → b < 256 → bit_and b 0xEF ≡ options_kept b
options_kept_bits = numbers _ _ refl
