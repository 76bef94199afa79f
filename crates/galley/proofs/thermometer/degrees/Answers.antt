-- A refused reading is 0, and any other the eighths of the state divided by 8, exactly.
use Rattle.std.proofs.Common.{rules, sym, ◌∙◌}
use mir.Syntax.{w16}
use mir.Val.{SFits}
use mir.ValLaws.{to_z-of_z}
use Rattle.galley_rules.proofs.Degrees.{degrees-refused, degrees-given}
use Rattle.galley.proofs.thermometer.degrees.Goals as goal

pub returns-then-not-valid : goal.returns-then-not-valid
returns-then-not-valid c =
    let told = degrees-refused c.args.galley (sym c.valid.ensures ∙ c.if-not-valid.true) in
    record { equal = told.0; exact = told.1 }

pub returns : goal.returns
returns c =
    let fits : SFits w16 c.args.galley.temperature = search rules in
    let told = degrees-given c.args.galley fits.sfits (sym c.valid.ensures ∙ c.if-not-valid.false) in
    rw (c.over_8.ensures, to_z-of_z w16 c.args.galley.temperature fits) (record { equal = told.0; exact = told.1 })
