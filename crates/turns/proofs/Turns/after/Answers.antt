-- A round takes the ticks up to the next one in which one leaves.
use Rattle.std.proofs.Common.{◌≡◌, ◌+◌, ◌-◌, refl, sym, ap, ◌∙◌, arith}
use Rattle.turns.specs.Turns.{turns_after}
use Rattle.turns.proofs.Rounds.{on-quietly, round, fewer-wait}
use Rattle.turns.proofs.Turns.after.Goals as goal

pub loop-tick-init : goal.loop-tick-init
unfolding turns_after
loop-tick-init c = (omega arith, refl)

pub loop-tick-smaller : goal.loop-tick-smaller
loop-tick-smaller c = let a = c.args in
    let l = c.loop-tick in
    let next = rw (c.from.ensures, c.from-in-loop-tick.ensures, c.in-Some.is) at c.next_leave.ensures in
    let left = rw (c.from-in-Some.ensures, c.from-in-Some-2.ensures, c.fallen.ensures) at c.leave-now.ensures in
    rw left (fewer-wait a.delay a.clock a.self l.past l.now l.invariant.1 c.in-Some.tick next.0 next.2)

pub loop-tick-preserved : goal.loop-tick-preserved
loop-tick-preserved c = let a = c.args in
    let l = c.loop-tick in
    let next = rw (c.from.ensures, c.from-in-loop-tick.ensures, c.in-Some.is) at c.next_leave.ensures in
    let left = rw (c.from-in-Some.ensures, c.from-in-Some-2.ensures, c.fallen.ensures) at c.leave-now.ensures in
    (omega (arith, l.invariant.0, next.1), round a.delay a.clock a.self l.past l.now l.invariant.1 c.in-Some.tick next.0 next.3 ∙ sym left)

pub returns : goal.returns
returns c = let a = c.args in
    let l = c.loop-tick in
    let quiet = rw (c.from.ensures, c.from-in-loop-tick.ensures, c.in_default.is) at c.next_leave.ensures in
    let whole : l.past + (a.ticks - l.past) ≡ a.ticks = omega (arith, l.invariant.0) in
    c.fallen-2.ensures
    ∙ sym (on-quietly a.delay a.clock a.self l.past l.now l.invariant.1 (a.ticks - l.past) quiet)
    ∙ ap (λ n. turns_after a.delay a.clock n a.self) whole
