-- Bytes put into a buffer: past its end nothing is stored, and what is put in two parts is put whole.
use Prim.Native.Nat.{ℕ, suc, ◌+◌, ◌≤◌, ◌<◌, min, max}
use mathlib.Core.Path.{◌≡◌, refl, sym, ◌∙◌}
use mathlib.Core.List.{List, [], ◌∷◌, ◌++◌}
use native.Mathlib.Decide.{dec_lt}
use native.Mathlib.Omega.{arith}
use native.Mathlib.Numerals.{add-one}
use lib.ListN.{length, get_or, take, drop, set, length-set, length-append, drop_of_length-le}
use lib.Seq.{sets, length-sets, set_out, sets-eq, drop-cons}
use Rattle.lent.specs.declared.Page.{Page}
use Rattle.lent.specs.Put.{Put, Puts}

pub sets-out : (out : List ℕ) (at : ℕ) (bytes : List ℕ) → length out ≤ at → sets out at bytes ≡ out
sets-out out at [] h = refl
sets-out out at (byte ∷ bytes) h =
    rw (set_out out at byte h) (sets-out out (suc at) bytes (omega arith))

-- the second part goes where the first ended; where that found no room, nowhere
parts_out : (out : List ℕ) (at next : ℕ) (first second : List ℕ) → length out ≤ at → length out ≤ next →
    sets out at (first ++ second) ≡ sets (sets out at first) next second
parts_out out at next first second h g =
    rw (sets-out out at (first ++ second) h, sets-out out at first h) (sym (sets-out out next second g))

parts_within : (first second out : List ℕ) (at next : ℕ) → at ≤ length out → next ≡ min (at + length first) (length out + 1) →
    sets out at (first ++ second) ≡ sets (sets out at first) next second
parts_within [] second out at next h e = let n : next ≡ at = omega arith in rw n
parts_within (byte ∷ first) second out at next h e =
    elim (dec_lt at (length out)) [
      | yes l ↦
          parts_within first second (set out at byte) (suc at) next (rw length-set l)
          (rw length-set (omega arith))
      | no g ↦ parts_out out at next (byte ∷ first) second (omega arith) (omega arith)
    ]

parts : (first second out : List ℕ) (at next : ℕ) → next ≡ max at (min (at + length first) (length out + 1)) →
    sets out at (first ++ second) ≡ sets (sets out at first) next second
parts first second out at next e =
    elim (dec_lt (length out) at) [
      | yes l ↦ parts_out out at next first second (omega arith) (omega arith)
      | no g ↦ parts_within first second out at next (omega arith) (omega arith)
    ]

pub put-append : {at next last : ℕ} {before between after first second : List ℕ} →
    Put first at before between next → Put second next between after last → Put (first ++ second) at before after last
put-append {at} {next} {last} {before} {between} {after} {first} {second} p q =
    record {
      stored = q.stored ∙ rw p.stored (sym (parts first second before at next p.index));
      index =
          let n : length between ≡ length before = rw p.stored (length-sets before at first) in
          rw length-append (omega arith);
    }

pub puts-append : {before between after : Page} {first second : List ℕ} →
    Puts first before between → Puts second between after → Puts (first ++ second) before after
puts-append p q = record { put = put-append p.put q.put; same = q.same ∙ p.same }

pub puts-nothing : (page : Page) → Puts [] page page
puts-nothing page = record { put = record { stored = refl; index = omega arith }; same = refl }

-- where there is room, the bytes stand from the index on, and the rest is as it was
pub put-with-room : {at next : ℕ} {before after bytes : List ℕ} → Put bytes at before after next → at + length bytes ≤ length before →
    (after ≡ take at before ++ bytes ++ drop (at + length bytes) before) × (next ≡ at + length bytes)
put-with-room {at} {next} {before} {after} {bytes} p h = (p.stored ∙ sets-eq bytes before at h, omega arith)

-- ---- bytes put part by part: what is still to be put makes of the buffer what all of them make of it
pub record Remains (rest : List ℕ) (next : ℕ) (out bytes : List ℕ) (at : ℕ) (before : List ℕ) : Type 0 where
  pub stored : sets out next rest ≡ sets before at bytes
  pub index : max next (min (next + length rest) (length out + 1)) ≡ max at (min (at + length bytes) (length before + 1))
  pub long : length out ≡ length before

pub all-remains : (bytes : List ℕ) (at : ℕ) (out : List ℕ) → Remains bytes at out bytes at out
all-remains bytes at out = record { stored = refl; index = refl; long = refl }

-- where the second part ends is where both end
both_end : (next last first rest long : ℕ) → last ≡ max next (min (next + first) long) →
    max last (min (last + rest) long) ≡ max next (min (next + (first + rest)) long)
both_end next last first rest long e =
    elim (dec_lt long next) [
      | yes l ↦ let q : last ≡ next = omega arith in rw q (omega arith)
      | no g ↦ let q : last ≡ min (next + first) long = omega arith in rw q (omega arith)
    ]

module _ {out bytes before : List ℕ} {next at : ℕ} where
  pub part-put : (first rest : List ℕ) {after : List ℕ} {last : ℕ} → Remains (first ++ rest) next out bytes at before →
      Put first next out after last → Remains rest last after bytes at before
  part-put first rest {after} {last} r p =
      let same : length after ≡ length out = rw p.stored (length-sets out next first) in
      record {
        stored = rw p.stored (sym (parts first rest out next last p.index) ∙ r.stored);
        index =
            rw same
            (both_end next last (length first) (length rest) (length out + 1) p.index ∙ rw length-append at r.index);
        long = same ∙ r.long;
      }

  pub none-remains : Remains [] next out bytes at before → Put bytes at before out next
  none-remains r = record { stored = r.stored; index = omega (arith, r.index) }

  -- at the buffer's end a byte is left out, and past it nothing more is stored
  pub left-out : (rest : List ℕ) {last : ℕ} → 0 < length rest → length out ≤ next → last ≡ max next (length out + 1) →
      Remains rest next out bytes at before → Put bytes at before out last
  left-out rest some h e r = record { stored = sym (sets-out out next rest h) ∙ r.stored; index = omega (arith, r.index) }

  -- byte after byte
  module _ (i : ℕ) (r : Remains (drop i bytes) next out bytes at before) where
    pub byte_put : i < length bytes → next < length out →
        Remains (drop (i + 1) bytes) (next + 1) (set out next (get_or bytes i 0)) bytes at before
    byte_put h g =
        part-put (get_or bytes i 0 ∷ []) (drop (i + 1) bytes) (rw (drop-cons bytes i 0 h, sym (add-one i)) at r)
        (record { stored = refl; index = omega arith })

    pub bytes-done : length bytes ≤ i → Put bytes at before out next
    bytes-done h = none-remains (rw (drop_of_length-le bytes h) at r)

-- the same of a page
pub record Rests (rest : List ℕ) (now : Page) (bytes : List ℕ) (before : Page) : Type 0 where
  pub remains : Remains rest now.at now.bytes.now bytes before.at before.bytes.now
  pub same : now.bytes.ghost_name ≡ before.bytes.ghost_name

module _ {bytes : List ℕ} {before now : Page} where
  pub part-puts : (first rest : List ℕ) {after : Page} → Rests (first ++ rest) now bytes before → Puts first now after → Rests rest after bytes before
  part-puts first rest r p = record { remains = part-put first rest r.remains p.put; same = p.same ∙ r.same }

  pub none-rests : Rests [] now bytes before → Puts bytes before now
  none-rests r = record { put = none-remains r.remains; same = r.same }

pub put-length : {at next : ℕ} {before after bytes : List ℕ} → Put bytes at before after next → length after ≡ length before
put-length {at} {next} {before} {after} {bytes} p = rw p.stored (length-sets before at bytes)
