-- None where none waits, and else the first multiple of the shortest period when the wait is over, if it comes in time.
use Rattle.std.proofs.Common.{◌≡◌, ◌+◌, ◌^◌, max, sym, ap, ◌∙◌, arith}
use Rattle.turns.specs.Departures.{up_to}
use Rattle.turns.proofs.Next.{never, next}
use Rattle.turns.proofs.Turns.next_leave.Goals as goal

pub returns-in_err-period : goal.returns-in_err-period
returns-in_err-period c = rw c.from_residual.ensures (λ n pos few. never c.args.clock c.args.self.now (sym c.in_err-period.was ∙ c.shortest.ensures) n)

pub returns : goal.returns
returns c =
    let t = c.args.clock in
    let now = c.args.self.now in
    let tick = c.from.result + c.from-3.result in
    let over : c.from-2.result ≡ max now.wait 1 = cc in
    let sum : t + tick ≡ t + c.from-2.result + c.ticks_to.result = omega arith in
    let to = sum ∙ c.ticks_to.ensures ∙ ap (λ w. up_to (2 ^ c.in_ok-period.period) (t + w)) over in
    rw c.then_some.ensures (next t now c.in_ok-period.period (sym c.in_ok-period.was ∙ c.shortest.ensures) tick to c.args.ticks)
