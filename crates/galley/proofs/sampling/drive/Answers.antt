-- A channel is written where its target differs, and passed over where it is right.
use Rattle.std.proofs.Common.{rules, arith, refl, sym, ◌∙◌}
use Rattle.rules.specs.declared.Channel.{Channel}
use Rattle.laws.proofs.Each.{map-from_IsMapOf}
use Rattle.galley_rules.proofs.Drive.{left-written, left-valid, left-right, left-none}
use Rattle.galley.proofs.sampling.drive.Goals as goal
use Rattle.galley.proofs.sampling.drive.Goals.{then-differs, else-differs}

pub loop-i-init : goal.loop-i-init
loop-i-init c =
    let read = map-from_IsMapOf (λ (channel : Channel). channel.target) c.map-targets.ensures.items (omega arith) (λ x r q k. search rules) in
    (c.requires, rw read refl)

pub loop-i-preserved : goal.loop-i-preserved
loop-i-preserved c =
    let six = c.map-targets.ensures.items.long in
    elim c.if-differs.branch [
      | then-differs w ↦
          rw (w.state-is, w.write_target-state.ensures, c.duty_word-word.ensures) (
            left-valid c.args.duty c.map-targets.result c.loop-i.state c.loop-i.i c.loop-i.invariant.0,
            left-written c.args.duty c.map-targets.result c.loop-i.state c.loop-i.i (omega (arith, six)) w.if-differs.true ∙ c.loop-i.invariant.1,
          )
      | else-differs w ↦
          rw w.state-is (
            c.loop-i.invariant.0,
            left-right c.args.duty c.map-targets.result c.loop-i.state c.loop-i.i (omega (arith, six)) w.if-differs.false ∙ c.loop-i.invariant.1,
          )
    ]

pub returns : goal.returns
returns c =
    let six = c.map-targets.ensures.items.long in
    sym (left-none c.args.duty c.map-targets.result c.loop-i.state c.loop-i.i (omega (arith, six))) ∙ c.loop-i.invariant.1
