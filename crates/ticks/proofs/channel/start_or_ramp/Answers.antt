-- One tick starts a spin-up that is due, and the rest of the span ramps.
use Rattle.std.proofs.Common.{◌≡◌, ◌+◌, ◌-◌, ◌<◌, false, sym, ap, ◌∙◌, arith}
use Rattle.rules.specs.Time.{spin_ticks}
use Rattle.rules.specs.Registers.{spin_code}
use Rattle.laws.proofs.ChannelTicks.{channel_ticks, full-not-due, ticks-due-within, ticks-due-past}
use Rattle.ticks.proofs.Wrapping.{ticks-wrapped}
use Rattle.ticks.proofs.channel.start_or_ramp.Goals as goal

pub returns-then-ticks-eq0 : goal.returns-then-ticks-eq0
unfolding channel_ticks
returns-then-ticks-eq0 c = ap (λ n. channel_ticks false n c.args.clock c.args.channel.now) (sym c.if-ticks-eq0.true)

pub returns-then-left-from : goal.returns-then-left-from
returns-then-left-from c = let a = c.args in
    let due = sym c.spin_up_due.ensures ∙ c.if-not-spin_up_due.false in
    let some : 0 < a.ticks = omega (arith, c.if-ticks-eq0.false) in
    let time = c.spin_ticks-time.ensures ∙ ap spin_ticks c.spin_code.ensures in
    rw time (sym (ticks-due-within a.ticks a.clock a.channel.now c.requires due some (rw (c.from.ensures, time) at c.if-left-from.true)))

pub ramp-requires-2 : goal.ramp-requires-2
ramp-requires-2 c = (c.requires, full-not-due c.args.channel.now c.args.channel.now.spin 0, omega arith)

pub returns : goal.returns
returns c = let a = c.args in
    let due = sym c.spin_up_due.ensures ∙ c.if-not-spin_up_due.false in
    let some : 0 < a.ticks = omega (arith, c.if-ticks-eq0.false) in
    let time = c.spin_ticks-time.ensures ∙ ap spin_ticks c.spin_code.ensures in
    let t = spin_ticks (spin_code a.channel.now.config) in
    let past : t < a.ticks - 1 = omega (arith, c.from.ensures, time) in
    let at : a.clock + (1 + t) ≡ a.clock + 1 + t = omega arith in
    rw (c.from-2.ensures, c.from-3.ensures, time, ticks-wrapped, at) at c.ramp-2.ensures
    ∙ sym (ticks-due-past a.ticks a.clock a.channel.now c.requires due some (omega arith))
