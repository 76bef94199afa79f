-- The bytes of one more word are put, or none is left; only listed parameters have bytes.
use Rattle.std.proofs.Common.{drop, refl, inl, inr, arith}
use lib.ListN.{drop_of_length-le}
use Rattle.std.proofs.lemmas.Option.{slice_get-get_or}
use Rattle.lent.proofs.Stores.{part-puts, none-rests}
use Rattle.console_table.specs.declared.Parameter.TheVariants.{Number}
use Rattle.console_commands.proofs.Taking.{nothing-left, one-put, unlisted}
use Rattle.console_commands.proofs.reading.Reading.put_strings.Goals as goal

pub returns-in_default : goal.returns-in_default
returns-in_default c =
    rw (unlisted _ _ c.in_default.not-Listed) (record { put = record { stored = refl; index = omega arith }; same = refl })

pub loop-parameter-preserved : goal.loop-parameter-preserved
loop-parameter-preserved c =
    let loop = c.loop-parameter in
    let here = slice_get-get_or c.in-Listed.parameters.now loop.parameter-index (Number 0) c.loop-parameter-test.true in
    let put = one-put c.in-Listed.parameters.now loop.parameter-index here c.in-Some.ensures in
    part-puts _ _ (rw put at loop.invariant) c.put_parameter.ensures

pub returns-after-loop-parameter : goal.returns-after-loop-parameter
returns-after-loop-parameter c =
    let past = drop_of_length-le c.in-Listed.parameters.now {i = c.loop-parameter.parameter-index} (omega arith) in
    rw c.in-Listed.is (none-rests (rw (nothing-left _ _ 0 (inl past)).2 at c.loop-parameter.invariant))

pub returns-in_default-split_word : goal.returns-in_default-split_word
returns-in_default-split_word c =
    let none = nothing-left (drop c.loop-parameter.parameter-index c.in-Listed.parameters.now) _ 0 (inr c.in_default-split_word.ensures) in
    rw c.in-Listed.is (none-rests (rw none.2 at c.loop-parameter.invariant))
