-- The row of a temperature and a few eighths more, below 0 and from 0 on.
use Rattle.std.proofs.Common.{◌∙◌}
use mir.Syntax.{w32}
use mir.ValLaws.{to_z-of_z}
use Rattle.galley_rows.proofs.Signed.{row-cold, row-warm}
use Rattle.galley_rows.proofs.temperature.row_of.Goals as goal

pub returns-in-Ok : goal.returns-in-Ok
returns-in-Ok c =
    c.row_from_zero.ensures ∙ row-warm c.args.t _ _ (rw (to_z-of_z w32 c.args.t c.ranges.t) at c.in-Ok.ensures)

pub returns-in-Err : goal.returns-in-Err
returns-in-Err c =
    row-cold c.args.t c.args.more c.ranges.t (rw (to_z-of_z w32 c.args.t c.ranges.t) at c.in-Err.ensures) c.requires
