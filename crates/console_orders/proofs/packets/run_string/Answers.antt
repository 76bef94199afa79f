-- The run by the values of the line is told from the front of the buffer, which holds its answer bytes.
use Rattle.std.proofs.Common.{arith, ◌∙◌, length-take}
use lib.Seq.{length-take-le}
use Rattle.console_orders.proofs.Running.{answered-within, run-told}
use Rattle.console_orders.proofs.packets.run_string.Goals as goal

pub overflow_cast-ran : goal.overflow_cast-ran
overflow_cast-ran c = omega (arith, answered-within _ _ _ _ _ _ c.run-ran.ensures c.run-ran.auto.answers, length-take c.min-room.result c.args.buffer.now, c.min-room.ensures)

pub returns : goal.returns
returns c =
    run-told c.args.hand c.args.values.now c.args.bytes.now c.args.buffer.now (rw c.value.ensures at c.front-string.ensures) c.value-3.ensures
    (rw c.value-2.ensures at c.min-room.ensures) c.run-ran.ensures (c.run-ran.auto.answers ∙ length-take-le _ _ (omega (arith, c.min-room.ensures)))
    c.with_state.ensures (rw c.refusal_number-refusal.ensures at c.tell_as.ensures _)
