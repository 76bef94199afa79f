-- A bit is taken where the 512ths with it are not above the f64.
use Rattle.std.proofs.Common.{◌≡◌, ◌+◌, ◌-◌, ◌*◌, ◌%◌, ◌^◌, refl, sym, ◌∙◌, arith}
use Rattle.laws.proofs.Exact.{divided-by-512}
use Rattle.console_text.specs.Fraction.{parts_of}
use Rattle.console_text.proofs.Exact.{halves, parts_more, parts_same, parts-done}
use Rattle.console_text.proofs.fraction.parts.Goals as goal

pub loop-bit-init : goal.loop-bit-init
unfolding parts_of
loop-bit-init c = (omega arith, refl)

pub loop-bit-preserved-then-from-x : goal.loop-bit-preserved-then-from-x
unfolding lib.Ieee.of_bits
loop-bit-preserved-then-from-x c =
    let loop = c.loop-bit in
    let half = halves loop.bit (omega arith) in
    let low = loop.invariant.0 in
    let fits : 1 * 2 ^ (loop.bit - 1) % 4294967296 ≡ 2 ^ (loop.bit - 1) = omega (arith, half, low) in
    let taken = rw (c.from.ensures, fits, divided-by-512 (loop.n + 2 ^ (loop.bit - 1)) (omega (arith, half, low))) at c.if-from-x.true in
    rw fits (omega (arith, half, low), sym (parts_more loop.bit loop.n c.args.x (omega arith) taken) ∙ loop.invariant.1)

pub loop-bit-preserved : goal.loop-bit-preserved
unfolding lib.Ieee.of_bits
loop-bit-preserved c =
    let loop = c.loop-bit in
    let half = halves loop.bit (omega arith) in
    let low = loop.invariant.0 in
    let fits : 1 * 2 ^ (loop.bit - 1) % 4294967296 ≡ 2 ^ (loop.bit - 1) = omega (arith, half, low) in
    let left = rw (c.from.ensures, fits, divided-by-512 (loop.n + 2 ^ (loop.bit - 1)) (omega (arith, half, low))) at c.if-from-x.false in
    (omega (arith, half, low), sym (parts_same loop.bit loop.n c.args.x (omega arith) left) ∙ loop.invariant.1)

pub returns : goal.returns
returns c = sym (parts-done c.loop-bit.n c.args.x (omega arith)) ∙ c.loop-bit.invariant.1
