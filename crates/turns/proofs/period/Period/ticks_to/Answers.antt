-- The low bits of a clock's negative are the ticks to the next multiple.
use Rattle.std.proofs.Common.{◌≡◌, ℕ, zero, suc, ◌+◌, ◌*◌, ◌%◌, ◌^◌, ◌<◌, arith}
use Rattle.std.proofs.lemmas.Nat.{and_mask, pow_below}
use Rattle.turns.specs.Departures.{up_to}
use Rattle.turns.proofs.period.Period.ticks_to.Goals as goal

low-bits : (shift clock negative : ℕ) → shift < 8 → (negative + clock) % 2 ^ 64 ≡ 0 → clock + negative % 2 ^ shift ≡ up_to (2 ^ shift) clock
low-bits zero clock negative h e = omega arith
low-bits (suc zero) clock negative h e = omega arith
low-bits (suc (suc zero)) clock negative h e = omega arith
low-bits (suc (suc (suc zero))) clock negative h e = omega arith
low-bits (suc (suc (suc (suc zero)))) clock negative h e = omega arith
low-bits (suc (suc (suc (suc (suc zero))))) clock negative h e = omega arith
low-bits (suc (suc (suc (suc (suc (suc zero)))))) clock negative h e = omega arith
low-bits (suc (suc (suc (suc (suc (suc (suc zero))))))) clock negative h e = omega arith
low-bits (suc (suc (suc (suc (suc (suc (suc (suc shift)))))))) clock negative h e = absurd (omega arith)

below-128 : (shift : ℕ) → shift < 8 → 1 * 2 ^ shift % 2 ^ 64 ≡ 2 ^ shift
below-128 shift h = let low : 2 ^ shift < 2 ^ 8 = pow_below shift 8 h in omega arith

pub returns : goal.returns
returns c =
    let p = 2 ^ c.self.inside.shift in
    let fits : 1 * p % 2 ^ 64 ≡ p = below-128 c.self.inside.shift c.self.invariant in
    rw (← c.self.view_is, fits, and_mask) (low-bits c.self.inside.shift c.args.clock c.wrapping_neg.result c.self.invariant c.wrapping_neg.ensures)
