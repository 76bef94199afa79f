-- The lines put so far have a frame.
use Rattle.std.proofs.Common.{◌*◌}
use Rattle.console_text.specs.Frame.{Frame}
use Rattle.console_show.proofs.put_channels.Given as goal

abbrev pub invariant-loop-i : goal.invariant-loop-i
invariant-loop-i l = Frame (190 * l.i) l.initial.page l.page
