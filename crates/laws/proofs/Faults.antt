-- The fault byte: it is 0 just where no channel has its fault bit set, and it has a bit for each channel and no more.
use Prim.Native.Nat.{ℕ, zero, suc, ◌+◌, ◌*◌, ◌/◌, ◌%◌, ◌^◌, ◌<◌, ◌≤◌}
use mathlib.Core.Path.{◌≡◌, refl, sym, ◌∙◌, ap}
use mathlib.Core.Bool.{Bool, true, false, not, ◌||◌}
use mathlib.Core.List.{List, [], ◌∷◌, reverse}
use native.Mathlib.Omega.{arith}
use native.Mathlib.Nat.{two-pow-succ, div-div-eq-div-mul, zero-div}
use lib.Dec.{eqb}
use lib.ListN.{length, get_or}
use lib.Pow.{pow_mono}
use borrow.Author.Tests.{eq-eqb, ne_eqb, eqb-true, eqb-false}
use Rattle.std.specs.List.{fold}
use Rattle.std.proofs.lemmas.List.{reverse-append}
use Rattle.std.proofs.lemmas.List.Sums.{fold_push}
use Rattle.laws.proofs.Types.{Channel}
use Rattle.rules.specs.Basics.{some, bit, flag}
use Rattle.rules.specs.State.{blank}
use Rattle.rules.specs.Duty.{fault_byte}
use Rattle.rules.proofs.Tests.{flag-le}

-- a number is 0 just where its lowest bit is clear and its other bits are 0
lowest-bit : (on : Bool) (n : ℕ) → (on || not (eqb n 0)) ≡ not (eqb (flag on + 2 * n) 0)
lowest-bit true n = let e : 1 + 2 * n ≡ 0 → ⊥ = λ z. omega arith in sym (ap not (ne_eqb (1 + 2 * n) 0 e))
lowest-bit false n = ap not (go (eqb n 0) refl)
  where
    go : (t : Bool) → eqb n 0 ≡ t → t ≡ eqb (0 + 2 * n) 0
    go true e = sym (eq-eqb (0 + 2 * n) 0 (omega (arith, eqb-true n 0 e)))
    go false e = let ne : 0 + 2 * n ≡ 0 → ⊥ = λ z. eqb-false n 0 e (omega arith) in sym (ne_eqb (0 + 2 * n) 0 ne)

pub some-fault : (chs : List Channel) → some (λ ch. ch.fault) chs ≡ not (eqb (fault_byte chs) 0)
some-fault [] = refl
some-fault (ch ∷ chs) = ap (λ b. ch.fault || b) (some-fault chs) ∙ lowest-bit ch.fault (fault_byte chs)

pub fault-byte-lt : (chs : List Channel) → fault_byte chs < 2 ^ length chs
fault-byte-lt [] = omega arith
fault-byte-lt (ch ∷ chs) = rw two-pow-succ (omega (arith, fault-byte-lt chs, flag-le ch.fault))

-- six channels at the most: the byte keeps bits 7 and 6 clear
pub fault-byte-small : (chs : List Channel) → length chs ≤ 6 → fault_byte chs < 64
fault-byte-small chs h = omega (arith, fault-byte-lt chs, pow_mono {j = 6} h)

-- the channels from the last one on, each with its bit below those so far: of six none is lost
pub fault-byte-folded : (chs : List Channel) → length chs ≤ 6 → fold (λ byte (ch : Channel). byte * 2 % 256 + flag ch.fault) 0 (reverse chs) ≡ fault_byte chs
fault-byte-folded [] h = refl
fault-byte-folded (ch ∷ chs) h =
    ap (fold (λ byte (x : Channel). byte * 2 % 256 + flag x.fault) 0) (reverse-append (ch ∷ []) chs)
    ∙ fold_push (λ byte (x : Channel). byte * 2 % 256 + flag x.fault) 0 (reverse chs) ch
    ∙ rw (fault-byte-folded chs (omega arith)) (omega (arith, fault-byte-small chs (omega arith)))

-- the lowest bit of a number, and the bits above it
bit-lowest : (on : Bool) (n : ℕ) → bit 0 (flag on + 2 * n) ≡ on
bit-lowest true n = eq-eqb ((1 + 2 * n) / 2 ^ 0 % 2) 1 (omega arith)
bit-lowest false n = let e : (0 + 2 * n) / 2 ^ 0 % 2 ≡ 1 → ⊥ = λ z. omega arith in ne_eqb ((0 + 2 * n) / 2 ^ 0 % 2) 1 e

bit-above : (on : Bool) (n i : ℕ) → bit (suc i) (flag on + 2 * n) ≡ bit i n
bit-above on n i =
    let twice : 2 ^ suc i ≡ 2 * 2 ^ i = omega (arith, two-pow-succ i) in
    let half : (flag on + 2 * n) / 2 ≡ n = omega (arith, flag-le on) in
    ap (λ x. eqb (x % 2) 1)
    (ap (λ d. (flag on + 2 * n) / d) twice ∙ sym (div-div-eq-div-mul (flag on + 2 * n) 2 (2 ^ i)) ∙ ap (λ x. x / 2 ^ i) half)

-- bit i of the byte is the fault bit of the channel with index i
pub fault-bit : (chs : List Channel) (i : ℕ) → bit i (fault_byte chs) ≡ (get_or chs i blank).fault
fault-bit [] i = ap (λ x. eqb (x % 2) 1) (zero-div (2 ^ i))
fault-bit (ch ∷ chs) zero = bit-lowest ch.fault (fault_byte chs)
fault-bit (ch ∷ chs) (suc i) = bit-above ch.fault (fault_byte chs) i ∙ fault-bit chs i
