-- What the line gives, by how it is read.
use Rattle.std.proofs.Common.{refl, sym, ◌∙◌}
use Rattle.console_commands.proofs.Readings.{passed-on}
use Rattle.console_commands.proofs.Parsing.{refused-line, miscounted-line, counted-line}
use Rattle.console_commands.proofs.parse_line.Goals as goal

pub returns-in_err-reading : goal.returns-in_err-reading
returns-in_err-reading c =
    let is = refused-line _ (sym c.in_err-reading.ensures) in
    record {
      value = passed-on _ c.from_residual.ensures.1 ∙ is.parsed_as;
      values_after = rw is.values_as refl;
      bytes_after = rw is.bytes_as refl;
    }

pub returns-then-not-is_counted : goal.returns-then-not-is_counted
returns-then-not-is_counted c =
    let is = miscounted-line _ (sym c.in_ok-reading.ensures) (sym c.is_counted.ensures ∙ c.if-not-is_counted.true) in
    record {
      value = is.parsed_as;
      values_after = rw is.values_as refl;
      bytes_after = rw is.bytes_as refl;
    }

pub returns-in_err-take_values : goal.returns-in_err-take_values
returns-in_err-take_values c =
    let is = counted-line _ (sym c.in_ok-reading.ensures) (sym c.is_counted.ensures ∙ c.if-not-is_counted.false) in
    let reason = sym c.in_err-take_values.ensures.value in
    record {
      value = passed-on _ c.from_residual-in_err-take_values.ensures.1 ∙ rw reason at is.parsed_as;
      values_after = rw is.values_as c.take_values.ensures.values_after;
      bytes_after = rw is.bytes_as c.put_strings.ensures.put.stored;
    }

pub returns : goal.returns
returns c =
    let is = counted-line _ (sym c.in_ok-reading.ensures) (sym c.is_counted.ensures ∙ c.if-not-is_counted.false) in
    let taken = sym c.in_ok-take_values.ensures.value in
    record {
      value = rw taken at is.parsed_as;
      values_after = rw is.values_as c.take_values.ensures.values_after;
      bytes_after = rw is.bytes_as c.put_strings.ensures.put.stored;
    }
