-- What is put is the usage of the row at the place.
use Rattle.std.proofs.Common.{refl, arith}
use Rattle.console_table.proofs.Rows.{many, usage-here, usage-past}
use Rattle.console_table.proofs.put_usage.Goals as goal

pub returns-in-Some : goal.returns-in-Some
returns-in-Some c =
    let is = c.in-Some.ensures.lookup in
    rw (usage-here c.table.result.now c.table.ensures.same c.args.place c.in-Some.row.now is.3.0 is.1) at c.put.ensures

pub returns-in_default : goal.returns-in_default
returns-in_default c =
    rw (usage-past c.args.place (omega (arith, many, c.in_default.ensures.lookup)))
    (record { put = record { stored = refl; index = omega arith }; same = refl })
