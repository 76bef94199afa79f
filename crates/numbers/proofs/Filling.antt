-- The numbers of a state, put one channel after the other behind those of the box.
use Prim.Native.Nat.{ℕ, zero, suc, ◌+◌, ◌*◌, ◌≤◌, ◌<◌}
use mathlib.Core.Path.{◌≡◌, sym, ◌∙◌, ap}
use mathlib.Core.List.{List, [], ◌∷◌, ◌++◌, append_assoc, append-nil}
use native.Mathlib.Omega.{arith}
use native.Mathlib.Numerals.{add-one}
use lib.ListN.{length, get_or, take, length-append, length-take, length-drop}
use lib.Seq.{take-suc, take_all}
use borrow.Rule.Slice.PartMut.{put_mid}
use Rattle.std.proofs.lemmas.List.{take-append-le}
use Rattle.std.proofs.lemmas.Slice.{take-put_mid}
use Rattle.rules.specs.declared.Channel.{Channel}
use Rattle.rules.specs.declared.State.{State}
use Rattle.numbers.specs.Numbers.{box_table, channel_table, limits_in, numbers_in, Numbers, Within, number_count, channels_numbers, state_numbers, channels_limits, limits, own_from}

within-append : (l m a b : List ℕ) → Within l a → Within m b → Within (l ++ m) (a ++ b)
unfolding Within
within-append [] m [] b v w = w
within-append [] m (n ∷ a) b v w = absurd v
within-append (most ∷ l) m [] b v w = absurd v
within-append (most ∷ l) m (n ∷ a) b v w = (v.0, within-append l m a b v.1 w)

-- a channel more, at the end
numbers-append : (a : List Channel) (ch : Channel) → channels_numbers (a ++ (ch ∷ [])) ≡ channels_numbers a ++ numbers_in channel_table ch
unfolding channels_numbers
numbers-append [] ch = append-nil _
numbers-append (x ∷ a) ch = rw (numbers-append a ch) (sym (append_assoc (numbers_in channel_table x) (channels_numbers a) (numbers_in channel_table ch)))

limits-append : (n : ℕ) → channels_limits (suc n) ≡ channels_limits n ++ limits_in channel_table
unfolding channels_limits
limits-append zero = append-nil _
limits-append (suc n) = ap (λ l. limits_in channel_table ++ l) (limits-append n) ∙ sym (append_assoc (limits_in channel_table) (channels_limits n) (limits_in channel_table))

-- the numbers of the box and of the first n channels, and the most that each can be
abbrev first_numbers : State → ℕ → List ℕ
first_numbers s n = numbers_in box_table s ++ channels_numbers (take n s.channels)

abbrev first_limits : ℕ → List ℕ
first_limits n = limits_in box_table ++ channels_limits n

-- they are put
pub record Filled (s : State) (numbers : List ℕ) (n : ℕ) : Type 0 where
  pub front : take (own_from n) numbers ≡ first_numbers s n
  pub long : length numbers ≡ number_count
  pub within : Within (first_limits n) (first_numbers s n)

module _ (s : State) where
  pub filled_none : (shared rest : List ℕ) → Numbers box_table s shared → length rest ≡ 6 * length channel_table → Filled s (shared ++ rest) 0
  unfolding channels_numbers channels_limits
  filled_none shared rest e long =
      let wide : length shared ≡ length box_table = rw e.each in
      record {
        front = take-append-le (own_from 0) shared rest (omega arith) ∙ take_all (own_from 0) shared (omega arith) ∙ e.each;
        long = rw length-append (omega arith);
        within = rw e.each at e.within;
      }

  module _ (six : length s.channels ≡ 6) (numbers : List ℕ) (n : ℕ) (f : Filled s numbers n) where
    pub filled_more : (d : Channel) (own : List ℕ) (wide : ℕ) → n < 6 → Numbers channel_table (get_or s.channels n d) own → wide ≡ length channel_table →
        Filled s (put_mid (own_from n) wide numbers own) (n + 1)
    filled_more d own wide h e w =
        let long : length own ≡ length channel_table = rw e.each in
        let more : channels_numbers (take (n + 1) s.channels) ≡ channels_numbers (take n s.channels) ++ own =
        rw (add-one, take-suc s.channels n d (omega arith), e.each) (numbers-append (take n s.channels) (get_or s.channels n d)) in
        let both : Within (first_limits n ++ limits_in channel_table) (first_numbers s n ++ own) = within-append _ _ _ _ f.within e.within in
        record {
          front =
              take-put_mid (own_from n) wide numbers own (own_from (n + 1)) (omega arith) (omega (arith, f.long))
              ∙ rw (f.front, more) (append_assoc (numbers_in box_table s) (channels_numbers (take n s.channels)) own);
          long = simp (length-append, length-take, length-drop) (omega (arith, f.long));
          within = rw (more, add-one, limits-append n) both;
        }

    pub filled-all : 6 ≤ n → n ≤ 6 → (numbers ≡ state_numbers s) × Within limits numbers
    unfolding state_numbers limits
    filled-all low high =
        let e : n ≡ 6 = omega arith in
        let whole : numbers ≡ state_numbers s =
        sym (take_all (own_from n) numbers (omega (arith, f.long))) ∙ f.front
        ∙ ap (λ l. numbers_in box_table s ++ channels_numbers l) (take_all n s.channels (omega arith)) in
        (whole, rw whole (rw (e, take_all 6 s.channels (omega arith)) at f.within))
