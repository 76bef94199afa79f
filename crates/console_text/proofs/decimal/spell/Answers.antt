-- Each digit is put before those that are put already, until none is owed or no room is left.
use Rattle.std.proofs.Common.{◌≡◌, ◌+◌, ◌-◌, ◌∙◌, arith}
use mathlib.Core.List.{append-nil}
use lib.ListN.{length-set}
use Rattle.console_text.specs.Decimal.{digits_of}
use Rattle.console_text.proofs.Spelling.{both_zero, none-owed, none_left, none-put, digit-put}
use Rattle.console_text.proofs.decimal.spell.Goals as goal

pub loop-place-init : goal.loop-place-init
unfolding digits_of
loop-place-init c = (omega arith, rw (none-put c.args.digits.now (omega arith)) (append-nil _))

pub returns-then-rest-owed : goal.returns-then-rest-owed
returns-then-rest-owed c =
    let loop = c.loop-place in
    let whole : loop.place - 1 + 1 ≡ loop.place = omega arith in
    let spent = both_zero loop.rest loop.owed c.if-rest-owed.true in
    (omega arith, rw whole (rw (spent.0, spent.1, none-owed loop.place) at loop.invariant.1))

pub loop-place-preserved : goal.loop-place-preserved
loop-place-preserved c =
    let loop = c.loop-place in (
      rw length-set loop.invariant.0,
      rw c.saturating_sub-owed.ensures
          (digit-put loop.digits loop.place loop.owed loop.rest (omega arith) (omega arith) c.if-rest-owed.false ∙ loop.invariant.1),
    )

pub returns : goal.returns
returns c =
    let none : c.loop-place.place ≡ 0 = omega arith in
    (omega arith, none_left c.loop-place.digits _ _ none ∙ c.loop-place.invariant.1)
