-- The part is told from the buffer that it was put into.
use Rattle.std.proofs.Common.{rules}
use Rattle.console_galley.proofs.Telling.{span-told}
use Rattle.console_galley.proofs.commands.span_of.Goals as goal

pub returns : goal.returns
returns c = span-told _ _ _ _ _ c.part-refusal.ensures.number c.part-refusal.ensures.rows (search rules) c.put.ensures.put (c.tell_as.ensures _)
