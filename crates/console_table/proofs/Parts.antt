-- Parameters, one by one.
use Prim.Native.Nat.{ℕ, ◌<◌}
use mathlib.Core.Path.{◌≡◌, refl, sym, ap, ◌∙◌}
use mathlib.Core.List.{List, [], ◌∷◌, map}
use native.Mathlib.Omega.{arith}
use lib.ListN.{length, replicate, get_or-replicate, length-replicate, length-map}
use lib.Dec.{ltb}
use borrow.Author.Tests.{ltb-true, ltb-false}
use Rattle.rules.proofs.Tests.{by-test}
use Rattle.std.specs.Prelude.{Some}
use Rattle.std.specs.Bool.{then_some}
use Rattle.std.specs.List.{slice_get}
use Rattle.std.proofs.lemmas.Option.{slice_get-map, slice_get_past, slice_get-get_or}
use Rattle.console_table.specs.declared.Parameter.{Parameter}
use Rattle.console_table.specs.declared.Parameter.TheVariants.{Number}
use Rattle.numbers.specs.Numbers.{limits, limit_at}
use Rattle.console_table.specs.Table.{any, state_numbers}
use Rattle.console_table.proofs.Rows.{state-numbers}

-- as many of the same
pub all_any : (parameters : List Parameter) → replicate (length parameters) any ≡ map (λ (p : Parameter). any) parameters
all_any [] = refl
all_any (p ∷ parameters) = ap (λ ps. any ∷ ps) (all_any parameters)

-- a test that an index is within, and what stands there
within : {A : Type 0} (xs : List A) (n i : ℕ) (x : A) → length xs ≡ n → (i < n → slice_get xs i ≡ Some x) → then_some (ltb i n) x ≡ slice_get xs i
within xs n i x long here =
    by-test (ltb i n) (λ t. rw t (sym (here (ltb-true i n t))))
    (λ f. rw f (sym (slice_get_past xs i (omega (arith, long, ltb-false i n f)))))

pub any-number : (count i : ℕ) → then_some (ltb i count) any ≡ slice_get (replicate count any) i
any-number count i =
    within (replicate count any) count i any (length-replicate count any)
    (λ h. slice_get-get_or (replicate count any) i any (rw length-replicate h) ∙ rw (get_or-replicate count i any any h))

pub state-number : (i : ℕ) → then_some (ltb i 76) (Number (limit_at i)) ≡ slice_get state_numbers i
unfolding state_numbers
state-number i =
    within state_numbers 76 i (Number (limit_at i)) state-numbers
    (λ h.
    let below : i < length limits = omega (arith, h, state-numbers, length-map limits (λ (most : ℕ). Number most)) in
    slice_get-map (λ (most : ℕ). Number most) limits i ∙ rw (slice_get-get_or limits i 0 below))
