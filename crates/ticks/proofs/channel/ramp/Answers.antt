-- At once with rate code 0, and by the multiples of the period with any other.
use Rattle.std.proofs.Common.{◌≡◌, suc, ◌-◌, false, sym, ap, ◌∙◌, arith}
use Rattle.laws.proofs.ChannelTicks.{channel_ticks, ticks-at-once, ticks-ramp}
use Rattle.ticks.proofs.channel.ramp.Goals as goal

pub returns-then-rate_code-eq0 : goal.returns-then-rate_code-eq0
returns-then-rate_code-eq0 c = let a = c.args in
    let e : a.ticks ≡ suc (a.ticks - 1) = omega (arith, c.requires.2) in
    rw c.wanted-goal.ensures
    (sym (ap (λ n. channel_ticks false n a.clock a.channel.now) e
    ∙ ticks-at-once a.clock a.channel.now c.requires.0 c.requires.1 (a.ticks - 1)
    (rw c.rate_code.ensures at c.if-rate_code-eq0.true)))

pub returns : goal.returns
returns c = let a = c.args in
    rw (c.approach-channel.ensures, c.shift_of-shift.ensures.0, c.wanted-goal.ensures, c.from-before.ensures, c.from.ensures)
    (sym (ticks-ramp a.clock a.channel.now c.requires.0 c.requires.1 a.ticks
    (λ z. c.if-rate_code-eq0.false (c.rate_code.ensures ∙ z))))
