-- The two tables, and 0 past them.
use Rattle.std.proofs.Common.{sym, arith, rules}
use Rattle.numbers.specs.Numbers.{limits, channels_limits}
use Rattle.numbers.proofs.Limits.{limit-in-box, limit-in-channels, limit-past}
use Rattle.numbers.proofs.limit.Goals as goal

pub returns-in-0-to-15 : goal.returns-in-0-to-15
returns-in-0-to-15 c = limit-in-box c.args.i (omega arith)

pub returns-in-16-to-75 : goal.returns-in-16-to-75
unfolding limits channels_limits
returns-in-16-to-75 c = limit-in-channels c.args.i (search rules) (search rules)

pub returns-in_default : goal.returns-in_default
unfolding limits channels_limits
returns-in_default c = sym (limit-past c.args.i (search rules))
