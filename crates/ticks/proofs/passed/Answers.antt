-- The channels and the wait after the ticks that may move them, and the watchdog's part.
use Rattle.laws.proofs.Valid.{few-pulses}
use Rattle.ticks.proofs.passed.Goals as goal

pub pass_channels-requires : goal.pass_channels-requires
pass_channels-requires c = (few-pulses c.args.given.state c.args.given.is_valid, c.waited_in-free.ensures.1)

pub pass_channels-requires-2 : goal.pass_channels-requires-2
pass_channels-requires-2 c = (few-pulses c.args.given.state c.args.given.is_valid, c.waited_in-last.ensures.1)
