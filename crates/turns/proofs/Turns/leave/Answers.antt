-- Each in its turn.
use Rattle.std.proofs.Common.{◌<◌, length, sym, ◌∙◌, arith}
use Rattle.std.proofs.lemmas.List.{set-get_or}
use Rattle.turns.proofs.Tick.{stays, leaves, all-turned}
use Rattle.turns.proofs.Turns.leave.Goals.{then-may_leave, else-may_leave}
use Rattle.turns.proofs.Turns.leave.Goals as goal

pub loop-waiter-preserved : goal.loop-waiter-preserved
loop-waiter-preserved c = let a = c.args in
    let l = c.loop-waiter in
    let few : l.waiter-index < length l.waiter-items = omega (arith, l.invariant.long) in
    elim c.if-may_leave.branch [
      | then-may_leave w ↦
          rw (w.wait-is, w.waiter-items-is)
          (leaves a.clock a.past a.delay a.self l.wait l.waiter-items l.waiter-index _ few l.invariant (sym c.may_leave.ensures ∙ w.if-may_leave.true))
      | else-may_leave w ↦
          rw (w.wait-is, w.waiter-items-is, set-get_or)
          (stays a.clock a.past a.delay a.self l.wait l.waiter-items l.waiter-index _ few l.invariant (sym c.may_leave.ensures ∙ w.if-may_leave.false))
    ]

pub returns : goal.returns
returns c = all-turned _ _ _ _ c.loop-waiter.wait c.loop-waiter.waiter-items c.loop-waiter.waiter-index c.loop-waiter-test.false c.loop-waiter.invariant
