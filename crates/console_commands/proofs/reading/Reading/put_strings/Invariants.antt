-- What the words still to come make of the page stays the same.
use Rattle.std.proofs.Common.{drop}
use Rattle.console_text.specs.Words.{words_of}
use Rattle.lent.proofs.Stores.{Rests}
use Rattle.console_commands.specs.Commands.{bytes_in}
use Rattle.console_commands.proofs.reading.Reading.put_strings.Given as goal

abbrev pub invariant-loop-parameter : goal.invariant-loop-parameter
invariant-loop-parameter l =
    Rests (bytes_in (drop l.parameter-index l.parameters) (words_of l.rest)) l.page (bytes_in l.parameters (words_of l.self.words.now)) l.fn.page
