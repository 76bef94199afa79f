-- The rows of each part of the table stand from the part's first place on; and the names one after the other, eight places each.
use Prim.Native.Nat.{ℕ, zero, suc, ◌+◌, ◌-◌, ◌*◌, ◌≤◌, ◌<◌}
use mathlib.Core.Path.{◌≡◌, refl, ap, ◌∙◌}
use mathlib.Core.Bool.{Bool, true, ◌&&◌}
use mathlib.Core.List.{List, [], ◌∷◌, ◌++◌, map}
use native.Mathlib.Omega.{arith}
use lib.ListN.{length, get_or, take, drop, replicate, get_or-append}
use lib.Seq.{get_or-append-add}
use lib.Dec.{leb, eqb}
use Rattle.rules.proofs.Tests.{all_below}
use Rattle.console_text.specs.Words.{run_of}
use Rattle.std.specs.Str.{bytes_eq}
use Rattle.console_table.specs.declared.Command.{Command}
use Rattle.console_table.specs.Table.{Row, access_rows, event_rows, state_rows, string_rows, galley_rows, commands, name_of}
use Rattle.console_table.specs.Rows.{row_in, Describe}

-- a row of the source is the one at a place of the table
pub record RowAt (command : Command) (rows : List Row) (i : ℕ) : Type 0 where
  pub row : Row
  pub stands : get_or rows i row ≡ row
  pub same : row_in command ≡ row

-- the row at an index, in both
row_at : (source : List Command) (rows : List Row) → map row_in source ≡ rows → (i : ℕ) → i < length rows → (d : Command) → RowAt (get_or source i d) rows i
row_at [] [] e i h d = absurd (omega arith)
row_at [] (r ∷ rows) e i h d = absurd (omega (arith, ap length e))
row_at (c ∷ source) [] e i h d = absurd (omega arith)
row_at (c ∷ source) (r ∷ rows) e zero h d = record { row = r; stands = refl; same = cc }
row_at (c ∷ source) (r ∷ rows) e (suc i) h d =
    let at = row_at source rows (cc) i (omega arith) d in
    record { row = at.row; stands = at.stands; same = at.same }

-- in a part of the table: the row of the first of two, or of the second
module _ (rows others : List Row) {command : Command} {place : ℕ} where
  in-first : place < length rows → RowAt command rows place → RowAt command (rows ++ others) place
  in-first h at =
      record { row = at.row; stands = get_or-append rows others at.row place h ∙ at.stands; same = at.same }

  in-second : length rows ≤ place → RowAt command others (place - length rows) → RowAt command (rows ++ others) place
  in-second h at =
      let past : length rows + (place - length rows) ≡ place = omega arith in
      let stands = get_or-append-add rows others (place - length rows) at.row ∙ at.stands in
      record { row = at.row; stands = rw past at stands; same = at.same }

-- the rows of each part, at the places from the part's first on
module _ (source : List Command) (d : Command) (place : ℕ) where
  pub access-row : Describe source access_rows → place < length access_rows → RowAt (get_or source place d) commands place
  unfolding commands
  access-row e h = in-first access_rows (event_rows ++ (state_rows ++ (string_rows ++ galley_rows))) h (row_at source access_rows e.same place h d)

  module _ (rows part others : List Row) (e : Describe source part) (from : length rows ≤ place) where
    part-row : place < length rows + length part → RowAt (get_or source (place - length rows) d) (rows ++ (part ++ others)) place
    part-row h =
        in-second rows (part ++ others) from (in-first part others (omega arith) (row_at source part e.same (place - length rows) (omega arith) d))

  pub event-row : Describe source event_rows → length access_rows ≤ place → place < length (access_rows ++ event_rows) →
      RowAt (get_or source (place - length access_rows) d) commands place
  unfolding commands
  event-row e from h = part-row access_rows event_rows (state_rows ++ (string_rows ++ galley_rows)) e from h

  pub state-row : Describe source state_rows → length (access_rows ++ event_rows) ≤ place → place < length (access_rows ++ (event_rows ++ state_rows)) →
      RowAt (get_or source (place - length (access_rows ++ event_rows)) d) commands place
  unfolding commands
  state-row e from h = part-row (access_rows ++ event_rows) state_rows (string_rows ++ galley_rows) e from h

  pub string-row : Describe source string_rows → length (access_rows ++ (event_rows ++ state_rows)) ≤ place →
      place < length (access_rows ++ (event_rows ++ (state_rows ++ string_rows))) →
      RowAt (get_or source (place - length (access_rows ++ (event_rows ++ state_rows))) d) commands place
  unfolding commands
  string-row e from h = part-row (access_rows ++ (event_rows ++ state_rows)) string_rows galley_rows e from h

  pub galley-row : Describe source galley_rows → length (access_rows ++ (event_rows ++ (state_rows ++ string_rows))) ≤ place → place < length commands →
      RowAt (get_or source (place - length (access_rows ++ (event_rows ++ (state_rows ++ string_rows)))) d) commands place
  unfolding commands
  galley-row e from h = part-row (access_rows ++ (event_rows ++ (state_rows ++ string_rows))) galley_rows [] e from h

-- ---- the names, each in eight places and with a digit that tells how long it is

abbrev pub name_at : ℕ → List ℕ
name_at i = get_or (map name_of commands) i []

abbrev pub name_entry : List ℕ → List ℕ
name_entry name = name ++ (replicate (8 - length name) 32 ++ ((48 + length name) ∷ []))

unfoldable pub name_entries : List Row → List ℕ
name_entries [] = []
name_entries (row ∷ rows) = name_entry (name_of row) ++ name_entries rows

abbrev pub name_table : List ℕ
name_table = name_entries commands

-- as many rows as the table has
abbrev pub row_count : ℕ
row_count = 26

-- at each place the table of names has the row's name and its length, which is at most eight
pub name-here : ℕ → Bool
name-here i =
    eqb (get_or name_table (9 * i + 8) 0) (48 + length (name_at i))
    && (leb (length (name_at i)) 8 && bytes_eq (take (length (name_at i)) (drop (9 * i) name_table)) (name_at i))

pub names-listed : (all_below row_count name-here ≡ true) × (length name_table ≡ 9 * row_count)
unfolding commands name_entries run_of name-here
names-listed = (refl, refl)
