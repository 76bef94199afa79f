-- One more digit is read, or the text ends or breaks off there.
use Rattle.std.proofs.Common.{sym, ◌∙◌, arith, rules}
use Rattle.console_text.proofs.Digits.{digit-some, digit-none, no-digits, begins, goes_on, breaks-off, ends, limited-told}
use Rattle.console_text.proofs.number.in_base.Goals as goal

pub returns-then-is_empty : goal.returns-then-is_empty
returns-then-is_empty c = no-digits c.args.base c.args.text.now (sym c.is_empty.ensures ∙ c.if-is_empty.true)

pub loop-byte-init : goal.loop-byte-init
loop-byte-init c = (omega arith, begins c.args.base c.args.text.now (sym c.is_empty.ensures ∙ c.if-is_empty.false))

pub returns-in_default : goal.returns-in_default
returns-in_default c =
    let loop = c.loop-byte in
    let digit = digit-some _ (sym c.digit.ensures.value ∙ c.in-Some.is) in
    sym (breaks-off c.args.base c.args.text.now loop.byte-index loop.number (omega arith) (omega arith)) ∙ loop.invariant.1

pub returns-in_default-2 : goal.returns-in_default-2
returns-in_default-2 c =
    let loop = c.loop-byte in
    let none = digit-none _ (sym c.digit.ensures.value ∙ c.in_default.is) in
    sym (breaks-off c.args.base c.args.text.now loop.byte-index loop.number (omega arith) (omega arith)) ∙ loop.invariant.1

pub loop-byte-preserved : goal.loop-byte-preserved
loop-byte-preserved c =
    let loop = c.loop-byte in
    let digit = digit-some _ (sym c.digit.ensures.value ∙ c.in-Some.is) in (
      omega (arith, c.min-number.ensures),
      rw (c.min-number.ensures, c.from.ensures, c.from-in-loop-byte.ensures)
          (sym (goes_on c.args.base c.args.text.now loop.byte-index (omega arith) loop.number (omega arith) digit c.if-digit-base.true) ∙ loop.invariant.1),
    )

pub returns : goal.returns
returns c =
    let loop = c.loop-byte in
    sym (limited-told loop.number c.try_from.result c.map_err.result c.try_from.ensures c.map_err.ensures.cases (λ e why post. search rules))
    ∙ sym (ends c.args.base c.args.text.now loop.byte-index loop.number (omega arith)) ∙ loop.invariant.1
