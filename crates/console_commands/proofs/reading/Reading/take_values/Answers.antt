-- One more word is taken or refused, or none is left.
use Rattle.std.proofs.Common.{◌+◌, drop, sym, ◌∙◌, inl, inr, arith}
use lib.ListN.{drop_of_length-le}
use Rattle.std.proofs.lemmas.List.{set-get_or}
use Rattle.console_table.specs.Rows.{parameters_in}
use Rattle.console_commands.proofs.Readings.{passed-on}
use Rattle.console_commands.proofs.Taking.{from-past, nothing-left, one-refused, none-stored, one-taken, one-stored}
use Rattle.console_commands.proofs.reading.Reading.take_values.Goals as goal

pub returns-in_err-value : goal.returns-in_err-value
returns-in_err-value c =
    let loop = c.loop-i in
    let parameters = parameters_in c.args.self.parameters in
    let p = sym c.get.ensures ∙ c.in-Some.is in
    let first = c.in-Some-split_word.ensures in
    let refused = sym c.taken.ensures ∙ c.in_err-value.was in
    record {
      value = passed-on c.from_residual.result c.from_residual.ensures.1 ∙ sym (one-refused parameters loop.i p first c.args.self.first refused) ∙ loop.invariant.taken;
      values_after = set-get_or loop.values loop.i 0 ∙ rw (none-stored parameters loop.i p first c.args.self.first refused) at loop.invariant.stored;
    }

pub loop-i-preserved : goal.loop-i-preserved
loop-i-preserved c =
    let loop = c.loop-i in
    let parameters = parameters_in c.args.self.parameters in
    let p = sym c.get.ensures ∙ c.in-Some.is in
    let first = c.in-Some-split_word.ensures in
    let taken = sym c.taken.ensures ∙ c.in_ok-value.was in
    record {
      taken = sym (one-taken parameters loop.i p first c.args.self.first taken) ∙ loop.invariant.taken;
      stored = sym (one-stored parameters loop.i p first c.args.self.first taken loop.values) ∙ loop.invariant.stored;
    }

pub returns-after-loop-i : goal.returns-after-loop-i
returns-after-loop-i c =
    let loop = c.loop-i in
    let past = drop_of_length-le (parameters_in c.args.self.parameters) {i = loop.i} (omega arith) in
    let none = nothing-left _ _ (c.args.self.first + loop.i) (inl past) in
    record {
      value = sym none.0 ∙ loop.invariant.taken;
      values_after = rw none.1 at loop.invariant.stored;
    }

pub returns-in_default : goal.returns-in_default
returns-in_default c =
    let loop = c.loop-i in
    let past = from-past (parameters_in c.args.self.parameters) loop.i (sym c.get.ensures ∙ c.in_default.is) in
    let none = nothing-left _ _ (c.args.self.first + loop.i) (inl past) in
    record {
      value = sym none.0 ∙ loop.invariant.taken;
      values_after = set-get_or loop.values loop.i 0 ∙ rw none.1 at loop.invariant.stored;
    }

pub returns-in_default-split_word : goal.returns-in_default-split_word
returns-in_default-split_word c =
    let loop = c.loop-i in
    let none = nothing-left (drop loop.i (parameters_in c.args.self.parameters)) _ (c.args.self.first + loop.i) (inr (rw c.in_default-split_word.is at c.split_word.ensures)) in
    record {
      value = sym none.0 ∙ loop.invariant.taken;
      values_after = set-get_or loop.values loop.i 0 ∙ rw none.1 at loop.invariant.stored;
    }
