-- One that waits leaves at a multiple of its period.
use Rattle.std.proofs.Common.{◌^◌, refl}
use lib.Pow.{pow_pos}
use Rattle.turns.specs.Turns.{may_leave}
use Rattle.turns.proofs.Next.{none-to-multiple}
use Rattle.turns.proofs.Waiter.may_leave.Goals as goal

pub returns-in-Waits : goal.returns-in-Waits
unfolding may_leave
returns-in-Waits c =
    rw (c.in-Waits.is, none-to-multiple (2 ^ c.in-Waits.period) (pow_pos _) c.args.clock _ c.ticks_to.ensures) refl
