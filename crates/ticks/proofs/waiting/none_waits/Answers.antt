-- Above 0 none waits.
use Rattle.std.proofs.Common.{sym, ◌∙◌}
use Rattle.laws.proofs.Waiting.{none_at_zero}
use Rattle.ticks.proofs.waiting.none_waits.Goals as goal

pub returns-then-none_at_zero : goal.returns-then-none_at_zero
returns-then-none_at_zero c = let none = c.if-none_at_zero.true in none ∙ sym (none_at_zero c.args.now c.args.state.channels (sym c.none_at_zero.ensures ∙ none))
