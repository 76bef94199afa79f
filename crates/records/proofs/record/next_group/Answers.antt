-- Each return of `next_group` is a line of the definition, by the tests of the code.
use Rattle.std.proofs.Common.{arith}
use Rattle.records.proofs.Numbers.{fifth-above, zero-after, last, more}
use Rattle.records.proofs.record.next_group.Goals as goal

pub returns-then-byte-gt15 : goal.returns-then-byte-gt15
returns-then-byte-gt15 c = rw (← c.partial.view_is) (fifth-above _ _ _ c.if-partial-eq4.true c.if-byte-gt15.true)

pub returns-then-byte-eq0 : goal.returns-then-byte-eq0
returns-then-byte-eq0 c = rw (← c.partial.view_is) (zero-after _ _ _ c.if-partial-gt0.true c.if-byte-eq0.true)

pub returns-then-byte-lt128 : goal.returns-then-byte-lt128
returns-then-byte-lt128 c =
    rw (← c.partial.view_is, c.from.ensures)
    (last _ _ _ c.partial.invariant.few (λ e. grind (arith, c.else-partial-eq4.either)) c.if-byte-lt128.true (λ p. grind (arith, c.else-partial-gt0.either)))

pub returns-else-byte-lt128 : goal.returns-else-byte-lt128
returns-else-byte-lt128 c =
    rw (← c.partial.view_is, c.from.ensures)
    (more _ _ _ c.partial.invariant.few (λ e. grind (arith, c.else-partial-eq4.either)) c.if-byte-lt128.false)
