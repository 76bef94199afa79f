-- Where none waits, none has waited; else as the turns say.
use Rattle.std.proofs.Common.{replicate, sym, refl, ap, ◌∙◌, arith, le-leb}
use Rattle.laws.proofs.Waiting.{stood}
use Rattle.ticks.proofs.AfterTurns.{waited-low, row-turned, none-turned}
use Rattle.ticks.proofs.waiting.waited_in.Goals as goal

pub returns-then-none_waits : goal.returns-then-none_waits
returns-then-none_waits c = let a = c.args in (
  ap (λ wait. (wait, stood a.now a.ticks a.given.state.timer.clock (replicate 6 0) a.given.state.channels)) c.fall.ensures
      ∙ none-turned a.given.state a.ticks a.now c.requires (sym c.none_waits.ensures ∙ c.if-none_waits.true) (omega arith),
  rw (le-leb 0 a.ticks (omega arith)) refl,
)

pub returns : goal.returns
returns c = let s = c.args.given.state in (
  row-turned s c.args.given.is_valid _ _ c.requires _ c.turns_of-turns.ensures _ c.waited_of.ensures,
  waited-low s c.args.given.is_valid _ _ c.requires _ c.turns_of-turns.ensures _ c.waited_of.ensures,
)
