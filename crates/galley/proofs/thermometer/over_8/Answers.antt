-- Eighths divided as the machine divides.
use Rattle.std.specs.Float.Ieee.{of_bits}
use mir.Syntax.{w16}
use mir.ValLaws.{to_z-of_z}
use Rattle.galley_rules.proofs.Degrees.{divided-by-8}
use Rattle.galley.proofs.thermometer.over_8.Goals as goal

pub returns : goal.returns
unfolding of_bits
returns c = rw (c.from.ensures, to_z-of_z w16 c.args.t c.ranges.t) (divided-by-8 c.args.t c.ranges.t.sfits)
