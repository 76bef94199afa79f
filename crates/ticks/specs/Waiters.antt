-- The channels of a state as `turns` takes them.
use Rattle.std.specs.Prelude.{ℕ, map, if◌then◌else◌}
use Rattle.rules.specs.declared.Channel.{Channel}
use Rattle.rules.specs.declared.Conditions.{Conditions}
use Rattle.rules.specs.declared.State.{State}
use Rattle.rules.specs.Tick.{delay_of}
use Rattle.laws.proofs.Waiting.{waits, start_shift}
use Rattle.turns.specs.declared.Waiter.{Waiter}
use Rattle.turns.specs.declared.Waiter.TheVariants.{Waits, Left}
use Rattle.turns.specs.declared.Turns.{Turns}
use Rattle.turns.specs.Turns.{turns, turns_after}

-- one that waits, by the power of two that its period is; or with no tick waited
abbrev pub waiter_of : Conditions → Channel → Waiter
waiter_of k ch = if waits k ch then Waits (start_shift ch) else Left 0

-- all of them, and the wait, after m ticks
abbrev pub turned : State → ℕ → Conditions → Turns
turned s m k = turns_after (delay_of s) s.timer.clock m (turns s.timer.wait (map (waiter_of k) s.channels))
