-- Each after the ticks that it waited, by the law of one of them.
use Rattle.std.proofs.Common.{◌≡◌, ◌+◌, ◌-◌, ◌<◌, false, get_or, length, refl, sym, ap, ◌∙◌, arith, leb-true}
use Rattle.std.proofs.lemmas.List.{set-get_or}
use Rattle.rules.specs.State.{blank}
use Rattle.rules.specs.Tick.{overridden}
use Rattle.rules.proofs.Tests.{every-at}
use Rattle.laws.proofs.Valid.{few_pulses}
use Rattle.laws.proofs.ChannelTicks.{channel_ticks, ticks-held}
use Rattle.laws.proofs.Waiting.{stood, stood-long, stood-at}
use Rattle.ticks.proofs.Each.{next_is, one-changed, one-kept, all-changed}
use Rattle.ticks.proofs.Wrapping.{ticks-wrapped}
use Rattle.ticks.proofs.pass_channels.Goals.{then-not-overridden, else-not-overridden}
use Rattle.ticks.proofs.pass_channels.Goals as goal

pub pass-requires : goal.pass-requires
pass-requires c = let a = c.args in
    let l = c.loop-i in
    rw (next_is a.channels.now (stood a.now a.ticks a.clock a.waited a.channels.now) l.channels l.i blank l.invariant)
    (leb-true _ _ (every-at few_pulses a.channels.now l.i blank refl c.requires.0))

pub loop-i-preserved : goal.loop-i-preserved
loop-i-preserved c = let a = c.args in
    let l = c.loop-i in
    let skip = get_or a.waited l.i 0 in
    let end = stood a.now a.ticks a.clock a.waited a.channels.now in
    let long : length end ≡ length a.channels.now = stood-long a.now a.ticks a.clock a.waited a.channels.now (omega arith) in
    let is = next_is a.channels.now end l.channels l.i blank l.invariant in
    let few : l.i < length a.channels.now = omega arith in
    let to = stood-at a.now a.ticks a.clock a.waited a.channels.now l.i (omega arith) few in
    let m = a.ticks - skip in
    let t = a.clock + skip in
    let begin = get_or a.channels.now l.i blank in
    let told = c.overridden.ensures ∙ ap (overridden a.now) is in
    elim c.if-not-overridden.branch [
      | then-not-overridden w ↦
          rw w.channels-is
          (one-changed a.channels.now end long l.channels l.i _ blank l.invariant few
          (w.pass.ensures ∙ ticks-wrapped false m t _ ∙ ap (channel_ticks false m t) is
          ∙ ap (λ b. channel_ticks b m t begin) (sym w.if-not-overridden.true ∙ told) ∙ sym to))
      | else-not-overridden w ↦
          rw (w.channels-is, set-get_or)
          (one-kept a.channels.now end long l.channels l.i blank l.invariant few
          (sym (ticks-held m t begin) ∙ ap (λ b. channel_ticks b m t begin) (sym w.if-not-overridden.false ∙ told) ∙ sym to))
    ]

pub returns : goal.returns
returns c = let a = c.args in
    let l = c.loop-i in
    all-changed a.channels.now _ (stood-long a.now a.ticks a.clock a.waited a.channels.now (omega arith)) l.channels l.i (omega arith) l.invariant
