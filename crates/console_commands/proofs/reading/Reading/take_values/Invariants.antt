-- What the words still to come make of the values stays the same.
use Rattle.std.proofs.Common.{◌≡◌, ◌+◌, drop}
use lib.Seq.{sets}
use Rattle.console_text.specs.Words.{words_of}
use Rattle.console_table.specs.Rows.{parameters_in}
use Rattle.console_commands.specs.Commands.{taken_of, numbers_of}
use Rattle.console_commands.proofs.reading.Reading.take_values.Given as goal

abbrev pub invariant-loop-i : goal.invariant-loop-i
invariant-loop-i l =
    let parameters = drop l.i (parameters_in l.self.parameters) in
    let place = l.self.first + l.i in
    record {
      taken : taken_of parameters place (words_of l.rest) ≡ taken_of (parameters_in l.self.parameters) l.self.first (words_of l.self.words.now);
      stored : sets l.values l.i (numbers_of parameters place (words_of l.rest)) ≡ sets l.fn.values 0 (numbers_of (parameters_in l.self.parameters) l.self.first (words_of l.self.words.now));
    }
