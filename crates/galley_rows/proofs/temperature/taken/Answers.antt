-- A temperature in range fits 16 bits.
use Rattle.std.proofs.Common.{◌≡◌, true, refl, sym, ◌∙◌}
use mir.Syntax.{w16, w32}
use mir.ValLaws.{to_z-of_z}
use Rattle.galley_rules.specs.Temperature.{in_range}
use Rattle.galley_rows.proofs.Signed.{in-range-fits}
use Rattle.galley_rows.proofs.temperature.taken.Goals as goal

pub overflow_cast-result : goal.overflow_cast-result
overflow_cast-result c =
    let same = to_z-of_z w32 c.args.t c.ranges.t in
    rw same (in-range-fits c.args.t (sym (rw same at c.in_range.ensures) ∙ c.if-not-in_range.false))

pub returns : goal.returns
returns c =
    let same = to_z-of_z w32 c.args.t c.ranges.t in
    let told : in_range c.args.t ≡ true = sym (rw same at c.in_range.ensures) ∙ c.if-not-in_range.false in
    rw (same, to_z-of_z w16 c.args.t (in-range-fits c.args.t told), told) refl
