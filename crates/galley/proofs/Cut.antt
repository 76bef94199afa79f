-- The part of a table that a span cuts out, and the refusal of a span that lies outside it.
use Prim.Native.Nat.{ℕ}
use mathlib.Core.Path.{◌≡◌}
use mathlib.Core.Bool.{true}
use mathlib.Core.List.{List, []}
use Rattle.std.specs.Prelude.{Option, None, Some, Result, MatchResult}
use Rattle.std.specs.Borrow.{Bor}
use Rattle.std.specs.Option.{ok_or}
use Rattle.std.specs.List.{PartBy}
use Rattle.rules.specs.Calls.{accepted}
use Rattle.galley_rules.specs.declared.refusal.GalleyRefusal.{GalleyRefusal}
use Rattle.galley_rules.specs.declared.refusal.GalleyRefusal.TheVariants.{RowsOutside}
use Rattle.galley_rules.specs.declared.Galley.{Galley}
use Rattle.galley_rules.specs.Galley.{valid_galley}
use Rattle.galley_rules.specs.Table.{are_tables, in_force}
use Rattle.galley_rules.specs.Span.{span_refusal, span_rows}
use Rattle.galley_rules.specs.Refusals.{galley_number}
use Rattle.galley_rules.proofs.Ladders.{in-force-long, span-inside, span-outside}

module _ (g : Galley) (first end : ℕ) (normal quiet : List ℕ) where
  pub record Given (r : Result (Bor (List ℕ)) GalleyRefusal) : Type 0 where
    pub number : MatchResult r (λ _. span_refusal g first end normal quiet ≡ accepted) (λ refusal. galley_number refusal ≡ span_refusal g first end normal quiet)
    pub rows : MatchResult r (λ rows. rows.now ≡ span_rows g first end normal quiet) (λ _. span_rows g first end normal quiet ≡ [])

  pub cut-out : valid_galley g ≡ true → are_tables normal quiet ≡ true → (part : Option (Bor (List ℕ))) →
      PartBy (λ (x : Bor (List ℕ)). x.now) (in_force g.quiet normal quiet) first end part → Given (ok_or part RowsOutside)
  cut-out valid whole None lookup =
      let long = in-force-long g.quiet normal quiet whole in
      let told = span-outside g first end normal quiet valid whole (rw long at lookup.0) in
      record { number = told.0; rows = told.1 }
  cut-out valid whole (Some rows) lookup =
      let long = in-force-long g.quiet normal quiet whole in
      let inside = lookup.0 in
      let told = span-inside g first end normal quiet valid whole inside.0 (rw long at inside.1) in
      record { number = told.0; rows = rw inside.2 told.1 }
