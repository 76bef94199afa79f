-- Where none has a pulse counted every count is good.
use Rattle.std.proofs.Common.{sym, ◌∙◌}
use Rattle.laws.proofs.Valid.{none-counted}
use Rattle.device.proofs.valid.valid_pulses.Goals as goal

pub returns-then-none_counted : goal.returns-then-none_counted
returns-then-none_counted c = c.if-none_counted.true ∙ sym (none-counted c.args.early c.args.channels (sym c.none_counted.ensures ∙ c.if-none_counted.true))
