-- The channels before the index are after the span, and the others as they were.
use Rattle.laws.proofs.Waiting.{stood}
use Rattle.ticks.proofs.Each.{Changed}
use Rattle.ticks.proofs.pass_channels.Given as goal

abbrev pub invariant-loop-i : goal.invariant-loop-i
invariant-loop-i l = Changed l.fn.channels (stood l.now l.ticks l.clock l.waited l.fn.channels) l.channels l.i
