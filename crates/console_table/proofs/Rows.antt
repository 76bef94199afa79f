-- The source's rows are the table's, and the first that has a word as its name is the one that the word names.
use Prim.Native.Nat.{ℕ, suc, ◌+◌, ◌-◌, ◌≤◌, ◌<◌}
use mathlib.Core.Path.{◌≡◌, refl, sym, ap, ◌∙◌}
use mathlib.Core.Bool.{Bool}
use mathlib.Core.List.{List, [], ◌∷◌, map}
use native.Mathlib.Omega.{arith}
use lib.ListN.{length, get_or, get_or-eq_default, length-map}
use lib.Dec.{leb}
use borrow.Author.Tests.{leb-true}
use Rattle.rules.proofs.Tests.{by-test, every-at}
use Rattle.laws.proofs.Each.{map_at}
use Rattle.numbers.specs.Numbers.{channels_limits, limits, number_count}
use Rattle.std.specs.Prelude.{Option, Some, None}
use Rattle.std.specs.Option.{MatchOption}
use Rattle.std.specs.List.{position, position_from}
use Rattle.std.specs.Str.{bytes_eq}
use Rattle.std.proofs.lemmas.Iterator.Adapters.{position_from-zero}
use Rattle.console_table.specs.declared.Asks.TheVariants.{Record}
use Rattle.console_table.specs.declared.Command.{Command}
use Rattle.console_table.specs.declared.Found.{Found}
use Rattle.console_table.specs.Table.{Row, commands, state_numbers, name_of, Named, known, named_among, named_by, usage_at}
use Rattle.console_table.specs.Rows.{row_in, Describe, FoundAs}

-- as many rows
pub many : length commands ≡ 26
unfolding commands
many = refl

-- as many numbers of a state
pub state-numbers : length state_numbers ≡ number_count
unfolding state_numbers limits channels_limits
state-numbers = refl

-- a row that no place has
nowhere : Row
nowhere = record { usage = []; asks = Record; parameters = [] }

-- no row has more parameters
parameters-few : (place : ℕ) → length (get_or commands place nowhere).parameters ≤ length state_numbers
unfolding commands state_numbers limits channels_limits nowhere
parameters-few place =
    leb-true _ _ (every-at (λ row. leb (length row.parameters) 76) commands place nowhere refl refl)

-- ---- the row that a word names
module _ (word : List ℕ) where
  abbrev pub has-name : Command → Bool
  has-name command = bytes_eq word command.name.now

  -- among rows of the source from an index on
  abbrev Names : List Command → ℕ → Option ℕ → Option Named → Type 0
  Names source i place named =
      MatchOption place (named ≡ None)
      (λ at. (d : Command) → (i ≤ at) × (at < i + length source) × (named ≡ known at (row_in (get_or source (at - i) d))))

  names-later : (command : Command) (source : List Command) (i : ℕ) (place : Option ℕ) (named : Option Named) →
      Names source (i + 1) place named → Names (command ∷ source) i place named
  names-later command source i None named h = h
  names-later command source i (Some at) named h =
      λ d.
      let has = h d in
      let after : at - i ≡ suc (at - (i + 1)) = omega (arith, has.0) in
      (omega (arith, has.0), omega (arith, has.1), rw after has.2)

  names-among : (source : List Command) (i : ℕ) → map (λ (command : Command). command.name.now) source ≡ map name_of (map row_in source) →
      Names source i (position_from has-name i source) (named_among (map row_in source) i word)
  unfolding named_among
  names-among [] i e = refl
  names-among (command ∷ source) i e =
      let own : command.name.now ≡ name_of (row_in command) = cc in
      let others : map (λ (command : Command). command.name.now) source ≡ map name_of (map row_in source) = cc in
      let same : bytes_eq word (name_of (row_in command)) ≡ has-name command = ap (bytes_eq word) (sym own) in
      by-test (has-name command)
      (λ t. rw (same, t) (λ d. let first : i - i ≡ 0 = omega arith in (omega arith, omega arith, rw first refl)))
      (λ f. rw (same, f) (names-later command source i _ _ (names-among source (i + 1) others)))

  module _ (source : List Command) (d : Describe source commands) where
    names-all : Names source 0 (position has-name source) (named_by word)
    unfolding named_by
    names-all =
        let own : map (λ (command : Command). command.name.now) source ≡ map name_of (map row_in source) = rw d.same d.names in
        rw (position_from-zero has-name source) (rw d.same at (names-among source 0 own))

    pub found-none : position has-name source ≡ None → FoundAs (named_by word) None
    found-none e = let none : named_by word ≡ None = rw e at names-all in rw none tt

    module _ (place : ℕ) (e : position has-name source ≡ Some place) (c : Command) where
      names-place : (0 ≤ place) × (place < length source) × (named_by word ≡ known place (row_in (get_or source place c)))
      names-place =
          let all = rw e at names-all in
          let has = all c in
          let same : place - 0 ≡ place = omega arith in
          (omega arith, omega (arith, has.1), rw same at has.2)

      row-few : length (row_in (get_or source place c)).parameters ≤ length state_numbers
      row-few =
          let row : get_or commands place nowhere ≡ row_in (get_or source place c) =
          ap (λ rows. get_or rows place nowhere) (sym d.same) ∙ map_at row_in source place c nowhere names-place.1 in
          rw row at (parameters-few place)

      pub found-some : (found : Found) → found.place ≡ place → found.row.now ≡ get_or source place c → FoundAs (named_by word) (Some found)
      found-some found p r =
          rw names-place.2
          (p, omega (arith, names-place.1, ap length d.same, length-map source row_in), record { same = ap row_in r; few = row-few })

    pub place-within : (place : ℕ) → position has-name source ≡ Some place → (c : Command) → place < length source
    place-within place e c = (names-place place e c).1

-- ---- how the command at a place is written
pub usage-here : (source : List Command) → map row_in source ≡ commands → (place : ℕ) (row : Command) → place < length source →
    row ≡ get_or source place row → row.usage.now ≡ usage_at place
unfolding usage_at
usage-here source same place row h e =
    let below : place < length commands = omega (arith, ap length same, length-map source row_in) in
    let own : get_or commands place (row_in row) ≡ row_in row =
    ap (λ rows. get_or rows place (row_in row)) (sym same) ∙ map_at row_in source place row (row_in row) h ∙ ap row_in (sym e) in
    sym (map_at (λ (r : Row). r.usage) commands place (row_in row) [] below ∙ ap (λ (r : Row). r.usage) own)

pub usage-past : (place : ℕ) → length commands ≤ place → usage_at place ≡ []
unfolding usage_at
usage-past place h = get_or-eq_default (map (λ row. row.usage) commands) [] {n = place} (rw length-map h)

pub usage-short : (place : ℕ) → length (usage_at place) ≤ 51
unfolding usage_at commands
usage-short place =
    leb-true _ _ (every-at (λ usage. leb (length usage) 51) (map (λ row. row.usage) commands) place [] refl refl)
