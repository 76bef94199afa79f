-- Frames: bytes that are put have one, and one text after another has one.
use Prim.Native.Nat.{ℕ, suc, ◌+◌, ◌≤◌}
use mathlib.Core.Path.{◌≡◌, refl, sym, ap, ◌∙◌}
use mathlib.Core.List.{List, [], ◌∷◌}
use native.Mathlib.Nat.{le_refl}
use native.Mathlib.Omega.{arith}
use lib.ListN.{length, take, set}
use lib.Seq.{sets, length-sets, take-set-le, take-take}
use Rattle.lent.specs.declared.Page.{Page}
use Rattle.lent.specs.Put.{Puts}
use Rattle.console_text.specs.Frame.{Frame}

front_kept : (n : ℕ) (out : List ℕ) (at : ℕ) (bytes : List ℕ) → n ≤ at → take n (sets out at bytes) ≡ take n out
front_kept n out at [] h = refl
front_kept n out at (byte ∷ bytes) h = front_kept n (set out at byte) (suc at) bytes (omega arith) ∙ take-set-le n out at byte h

pub put-frame : {bytes : List ℕ} {before after : Page} → Puts bytes before after → Frame (length bytes) before after
put-frame {bytes} {before} {after} p =
    record {
      kept = rw p.put.stored (front_kept before.at before.bytes.now before.at bytes (le_refl before.at));
      long = rw p.put.stored (length-sets before.bytes.now before.at bytes);
      grows = omega (arith, p.put.index);
      within = omega (arith, p.put.index);
      same = p.same;
    }

-- at most m bytes, then at most n, are at most m + n
pub frame_then : {m n : ℕ} {before between after : Page} → Frame m before between → Frame n between after → Frame (m + n) before after
frame_then {m} {n} {before} {between} {after} f g =
    record {
      kept =
          sym (take-take before.at between.at after.bytes.now f.grows) ∙ ap (take before.at) g.kept
          ∙ take-take before.at between.at between.bytes.now f.grows ∙ f.kept;
      long = g.long ∙ f.long;
      grows = omega arith;
      within = omega arith;
      same = g.same ∙ f.same;
    }

pub frame-looser : {m n : ℕ} {before after : Page} → m ≤ n → Frame m before after → Frame n before after
frame-looser h f = record { kept = f.kept; long = f.long; grows = f.grows; within = omega arith; same = f.same }

-- a text that is known, and is no longer
pub puts-within : {bytes : List ℕ} {before after : Page} (most : ℕ) → length bytes ≤ most → Puts bytes before after → Frame most before after
puts-within most h p = frame-looser h (put-frame p)

-- two, three or four texts one after the other
module _ {most m n : ℕ} {before between after : Page} (f : Frame m before between) (g : Frame n between after) where
  pub frames-2 : m + n ≤ most → Frame most before after
  frames-2 h = frame-looser h (frame_then f g)

  module _ {k : ℕ} {later : Page} (i : Frame k after later) where
    pub frames-3 : m + n + k ≤ most → Frame most before later
    frames-3 h = frame-looser h (frame_then (frame_then f g) i)

    pub frames-4 : {l : ℕ} {end : Page} → Frame l later end → m + n + k + l ≤ most → Frame most before end
    frames-4 j h = frame-looser h (frame_then (frame_then (frame_then f g) i) j)
