-- A record that is found lies within the string, and has at least two bytes.
use Rattle.std.proofs.Common.{arith}
use Rattle.console_text.proofs.Frames.{frames-2}
use Rattle.console_orders.proofs.Running.{found-ahead}
use Rattle.console_orders.proofs.decoded.put_records.Goals as goal

pub loop-page-smaller : goal.loop-page-smaller
loop-page-smaller c =
    let ahead = found-ahead _ _ c.next_at.ensures c.in-Ok-Some.is c.in-Ok-Some.field-0-is in
    omega (arith, ahead.enough, ahead.within)

pub loop-page-preserved : goal.loop-page-preserved
loop-page-preserved c =
    let ahead = found-ahead _ _ c.next_at.ensures c.in-Ok-Some.is c.in-Ok-Some.field-0-is in
    (frames-2 c.loop-page.invariant.0 c.put_record.ensures (omega (arith, ahead.enough)), ahead.within)
