-- Within its spin-up, or past it.
use Rattle.std.proofs.Common.{sym, ◌∙◌}
use Rattle.laws.proofs.ChannelTicks.{ticks-within, ticks-past}
use Rattle.ticks.proofs.Wrapping.{ticks-wrapped}
use Rattle.ticks.proofs.channel.pass.Goals as goal

pub returns-then-ticks-spin : goal.returns-then-ticks-spin
returns-then-ticks-spin c = let a = c.args in
    sym (ticks-within a.ticks a.clock a.channel.now c.requires (rw c.from-spin.ensures at c.if-ticks-spin.true))

pub returns : goal.returns
returns c = let a = c.args in
    rw (c.from-spin.ensures, ticks-wrapped) at c.start_or_ramp.ensures
    ∙ sym (ticks-past a.ticks a.clock a.channel.now c.requires (rw c.from-spin.ensures at c.if-ticks-spin.false))
