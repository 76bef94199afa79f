-- A signed number that is taken is handed over as the bits of the number that its word is.
use Prim.Native.Nat.{ℕ, ◌<◌}
use mathlib.Core.Path.{◌≡◌, ap, ◌∙◌}
use mathlib.Core.List.{List}
use native.Mathlib.Omega.{arith}
use lib.Dec.{ltb}
use lib.IntN.{ℤ, pos, negsuc}
use borrow.Author.Tests.{ltb-false}
use Rattle.rules.proofs.Tests.{by-test}
use Rattle.std.specs.Prelude.{Result, Ok}
use Rattle.console_text.specs.declared.signed.Signed.{Signed}
use Rattle.console_text.specs.declared.signed.Signed.TheVariants.{Plus, Minus}
use Rattle.console_text.specs.declared.signed.SignedError.{SignedError}
use Rattle.console_text.specs.Signed.{signed_of, bits_of, integer_of}
use Rattle.console_text.proofs.Integers.{bits_back}
use Rattle.console_table.specs.declared.Parameter.TheVariants as parameter
use Rattle.console_commands.specs.Commands.{value_of}

-- the number that a sign and digits are
abbrev spelled : ℤ → Result Signed SignedError
spelled (pos n) = Ok (Plus n)
spelled (negsuc n) = Ok (Minus n)

pub signed-kept : (z : ℤ) (most place : ℕ) (word : List ℕ) {v : ℕ} → most < 2_147_483_648 → signed_of word ≡ spelled z →
    value_of (parameter.Signed most) place word ≡ Ok v → integer_of v ≡ z
unfolding value_of
signed-kept (pos n) most place word {v} h s e =
    by-test (ltb most n) (λ t. cc (rw (s, t) at e))
    (λ f.
    let same : v ≡ bits_of (pos n) = cc (rw (s, f) at e) in
    ap integer_of same ∙ bits_back (pos n) (omega (arith, ltb-false most n f)))
signed-kept (negsuc n) most place word {v} h s e =
    by-test (ltb most n) (λ t. cc (rw (s, t) at e))
    (λ f.
    let same : v ≡ bits_of (negsuc n) = cc (rw (s, f) at e) in
    ap integer_of same ∙ bits_back (negsuc n) (omega (arith, ltb-false most n f)))
