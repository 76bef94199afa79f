-- Where the watchdog does not count all ticks may move a channel; where it expires on the way, those before that tick.
use Rattle.std.proofs.Common.{◌≡◌, ℕ, suc, ◌-◌, Bool, true, sym, ap, ◌∙◌, arith}
use Rattle.rules.specs.declared.State.{State}
use Rattle.rules.specs.Time.{clock_after}
use Rattle.rules.specs.Tick.{idle_limit}
use Rattle.laws.proofs.StateTicks.{counting-below, row_after, timed, free-ticks, counting-ticks, expiring-ticks}
use Rattle.ticks.proofs.span_of.Goals as goal

all-moving : (s : State) (ticks clock idle : ℕ) (expired status : Bool) →
    timed s (row_after ticks s) clock idle expired status ≡ let row = row_after ticks s in timed s (row.0 - (ticks - ticks), row.1) clock idle expired status
all-moving s ticks clock idle expired status =
    let none : (row_after ticks s).0 ≡ (row_after ticks s).0 - (ticks - ticks) = omega arith in
    ap (λ wait. timed s (wait, (row_after ticks s).1) clock idle expired status) none

pub returns-then-not-is_counting : goal.returns-then-not-is_counting
returns-then-not-is_counting c = let s = c.args.given.state in
    (omega arith, free-ticks c.args.ticks s (omega arith) (sym c.is_counting.ensures ∙ c.if-not-is_counting.true) ∙ all-moving s c.args.ticks _ _ _ _)

pub overflow_sub-room : goal.overflow_sub-room
overflow_sub-room c = let below = counting-below c.args.given.state c.args.given.is_valid (sym c.is_counting.ensures ∙ c.if-not-is_counting.false) in omega (arith, c.idle_limit-limit.ensures)

pub overflow_sub-room-2 : goal.overflow_sub-room-2
overflow_sub-room-2 c = let below = counting-below c.args.given.state c.args.given.is_valid (sym c.is_counting.ensures ∙ c.if-not-is_counting.false) in omega (arith, c.idle_limit-limit.ensures)

pub returns-then-ticks-from : goal.returns-then-ticks-from
returns-then-ticks-from c = let s = c.args.given.state in
    let n = c.args.ticks in
    let counts = sym c.is_counting.ensures ∙ c.if-not-is_counting.false in
    let below = counting-below s c.args.given.is_valid counts in
    (omega arith, counting-ticks n s (omega arith) counts (omega (arith, c.idle_limit-limit.ensures, c.if-ticks-from.true)) ∙ all-moving s n _ _ _ _)

pub returns : goal.returns
returns c = let s = c.args.given.state in
    let n = c.args.ticks in
    let counts = sym c.is_counting.ensures ∙ c.if-not-is_counting.false in
    let below = counting-below s c.args.given.is_valid counts in
    let limit = c.idle_limit-limit.ensures in
    let room = idle_limit s - s.timer.idle - 1 in
    let over : suc (n - suc room) ≡ n - room = omega (arith, limit, c.if-ticks-from.false) in
    rw (c.from-2.ensures, limit) (
      omega (arith, limit, c.if-ticks-from.false),
      expiring-ticks s counts below n (omega (arith, limit, c.if-ticks-from.false))
          ∙ ap (λ m. let row = row_after room s in timed s (row.0 - m, row.1) (clock_after s.timer.clock n) (idle_limit s) true true) over,
    )
