-- The jumps still to come take the state to the end.
use Rattle.std.proofs.Common.{◌≡◌, map, drop}
use Rattle.rules.specs.declared.Call.TheVariants.{Ticks}
use Rattle.rules.specs.Make.{after_each}
use Rattle.ticks.proofs.pass_each.Given as goal

abbrev pub invariant-loop-ticks : goal.invariant-loop-ticks
invariant-loop-ticks l = after_each l.last (map Ticks (drop l.ticks-index l.elapsed)) ≡ after_each l.initial.last (map Ticks l.elapsed)
