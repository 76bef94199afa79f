-- Number by number, each within its limit.
use Rattle.std.proofs.Common.{refl, ◌∙◌, arith}
use Rattle.laws.proofs.Faults.{fault-byte-small}
use Rattle.numbers.specs.Numbers.{Within}
use Rattle.numbers.proofs.Held.{flag-byte, flag-byte-le}
use Rattle.numbers.proofs.box_numbers.Goals as goal

pub returns : goal.returns
unfolding Within
returns c =
    let pin = c.from.ensures ∙ flag-byte c.args.state.pin in
    let expired = c.from-8.ensures ∙ flag-byte c.args.state.timer.expired in
    let faults = fault-byte-small c.args.state.channels (omega arith) in
    record {
      each = rw (
        pin,
        c.from-2.ensures,
        c.control_byte.ensures,
        c.from-3.ensures,
        c.from-4.ensures,
        c.fault_byte.ensures,
        c.from-5.ensures,
        c.from-6.ensures,
        c.from-7.ensures,
        expired,
        c.from-9.ensures,
        c.from-10.ensures,
        c.from-11.ensures,
        c.from-12.ensures,
        c.from-13.ensures,
        c.from-14.ensures,
        c.from-15.ensures,
      ) refl;
      within = omega (arith, flag-byte-le c.args.state.pin, flag-byte-le c.args.state.timer.expired, faults);
    }
