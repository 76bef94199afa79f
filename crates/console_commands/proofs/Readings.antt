-- How a line is read, by the row that its first word names, and after `encode` its second.
use Prim.Native.Nat.{ℕ, ◌≤◌}
use mathlib.Core.Path.{◌≡◌, refl, sym, ap, ◌∙◌}
use mathlib.Core.List.{List, [], ◌∷◌}
use native.Mathlib.Omega.{arith}
use denote.Ref.{Bor}
use lib.ListN.{length, length-map}
use Rattle.std.specs.Prelude.{Option, Some, None, Result, Ok, Err}
use Rattle.std.specs.Option.{ok_or}
use Rattle.std.specs.Result.{IsErrAnd}
use Rattle.std.proofs.lemmas.Option.{same_Some}
use Rattle.strings.specs.declared.kind.Kind.{Kind}
use Rattle.numbers.specs.Numbers.{number_count}
use Rattle.console_text.specs.Words.{words_of}
use Rattle.console_table.specs.declared.Asks.{Asks}
use Rattle.console_table.specs.declared.Asks.TheVariants.{For, Record}
use Rattle.console_table.specs.declared.Found.{Found}
use Rattle.console_table.specs.declared.Parameter.{Parameter}
use Rattle.console_table.specs.declared.Request.{Request}
use Rattle.console_table.specs.declared.Request.TheVariants.{Call, Verb, View}
use Rattle.console_table.specs.Rows.{row_in, parameters_in, FoundAs}
use Rattle.console_table.specs.Table.{Row, Named, known, named_by}
use Rattle.console_table.proofs.Rows.{state-numbers}
use Rattle.console_commands.specs.declared.reading.Reading.{Reading}
use Rattle.console_commands.specs.declared.Reason.{Reason}
use Rattle.console_commands.specs.declared.Reason.TheVariants.{UnknownCommand, WordCount, NoRecord}
use Rattle.console_commands.specs.declared.Parsed.TheVariants.{For as Parsed·for, Encode}
use Rattle.console_commands.specs.Commands.{Line, reading, widened, record_by, record_of, line_by, line_of}
use Rattle.console_commands.specs.Steps.{words_split, kind_in, read_by}

-- ---- what comes of a `?` after `ok_or`
pub some-given : {A : Type 0} (o : Option A) (reason : Reason) {x : A} → Ok x ≡ ok_or o reason → o ≡ Some x
some-given (Some y) reason e = cc
some-given None reason e = cc

none-given : {A : Type 0} (o : Option A) (reason : Reason) {given : Reason} → Err given ≡ ok_or o reason → (o ≡ None) × (given ≡ reason)
none-given (Some y) reason e = cc
none-given None reason e = (refl, cc)

pub passed-on : {A : Type 0} {given : Reason} (r : Result A Reason) → IsErrAnd r (λ e. e ≡ given) → r ≡ Err given
passed-on (Ok x) i = absurd i
passed-on (Err reason) i = ap (λ (e : Reason). Err e) i

-- a line that has none of what is asked for is refused
pub refused : {A : Type 0} {line : Result Line Reason} (o : Option A) (reason : Reason) {given : Reason} (r : Result Reading Reason) →
    Err given ≡ ok_or o reason → IsErrAnd r (λ e. e ≡ given) → (o ≡ None → line ≡ Err reason) → read_by r ≡ line
refused o reason r e i none =
    let is = none-given o reason e in
    rw (passed-on r i) (sym (none is.0 ∙ ap (λ (x : Reason). Err x) (sym is.1)))

-- ---- the row that the first word names, if there is one
not_found : (named : Option Named) (found : Option Found) → FoundAs named found → found ≡ None → named ≡ None
not_found None found f e = refl
not_found (Some named) found f e = absurd (rw e at f)

-- the first word of all names a row, and these words come after it
pub record Has (all words : List (List ℕ)) (found : Found) : Type 0 where
  pub word : List ℕ
  pub first : all ≡ word ∷ words
  pub named : named_by word ≡ known found.place (row_in found.row.now)
  pub few : length (parameters_in found.row.now.parameters) ≤ number_count

has-row : {all words : List (List ℕ)} (word : List ℕ) (named : Option Named) (found : Found) → all ≡ word ∷ words → named_by word ≡ named →
    FoundAs named (Some found) → Has all words found
has-row word None found e n f = absurd f
has-row word (Some named) found e n f =
    let is = f.2 in
    record {
      word = word;
      first = e;
      named = rw (n, is.same, f.0);
      few = let few = rw (← is.same) at is.few in omega (arith, few, state-numbers);
    }

module _ {all : List (List ℕ)} (split : Option (Bor (List ℕ) × Bor (List ℕ))) (e : all ≡ words_split split) where
  pub no_word : split ≡ None → all ≡ []
  no_word n = rw n at e

  module _ (reason : Reason) {word rest : Bor (List ℕ)} (s : Ok (word, rest) ≡ ok_or split reason) where
    first : all ≡ word.now ∷ words_of rest.now
    first = rw (some-given split reason s) at e

    module _ (result : Option Found) (f : FoundAs (named_by word.now) result) where
      pub has : (unnamed : Reason) {found : Found} → Ok found ≡ ok_or result unnamed → Has all (words_of rest.now) found
      has unnamed {found} r = has-row word.now (named_by word.now) found first refl (rw (some-given result unnamed r) at f)

      module _ (none : result ≡ None) where
        pub not-named : line_of all ≡ Err UnknownCommand
        unfolding line_of
        not-named = rw (first, not_found (named_by word.now) result f none)

        pub not-named-record : (place : ℕ) → record_of place all ≡ Err NoRecord
        unfolding record_of
        not-named-record place = rw (first, not_found (named_by word.now) result f none)

pub none-read : (all : List (List ℕ)) → all ≡ [] → line_of all ≡ Err UnknownCommand
unfolding line_of
none-read all e = rw e

pub none_recorded : (all : List (List ℕ)) (place : ℕ) → all ≡ [] → record_of place all ≡ Err (WordCount place)
unfolding record_of
none_recorded all place e = rw e

-- after `encode`, by what the row asks for
kind-read : (i : ℕ) (row : Row) (asks : Asks) (words : List (List ℕ)) {kind : Kind} → kind_in asks ≡ Some kind →
    record_by i row asks words ≡ reading i (Encode kind) (widened row.parameters) 3 words
kind-read i row (For (Call kind)) words e = ap (λ (k : Kind). reading i (Encode k) (widened row.parameters) 3 words) (same_Some _ _ e)
kind-read i row (For (Verb verb)) words e = cc
kind-read i row (For (View view)) words e = cc
kind-read i row Record words e = cc

no-kind : (i : ℕ) (row : Row) (asks : Asks) (words : List (List ℕ)) → kind_in asks ≡ None → record_by i row asks words ≡ Err NoRecord
no-kind i row (For (Call kind)) words e = cc
no-kind i row (For (Verb verb)) words e = refl
no-kind i row (For (View view)) words e = refl
no-kind i row Record words e = refl

module _ {all words : List (List ℕ)} {found : Found} (h : Has all words found) where
  read-by : line_of all ≡ line_by found.place (row_in found.row.now) found.row.now.asks words
  unfolding line_of
  read-by = rw (h.first, h.named)

  pub read : {request : Request} → found.row.now.asks ≡ For request →
      line_of all ≡ reading found.place (Parsed·for request) (parameters_in found.row.now.parameters) 2 words
  read e = rw e at read-by

  pub read-record : found.row.now.asks ≡ Record → line_of all ≡ record_of found.place words
  read-record e = rw e at read-by

  recorded-by : (place : ℕ) → record_of place all ≡ record_by found.place (row_in found.row.now) found.row.now.asks words
  unfolding record_of
  recorded-by place = rw (h.first, h.named)

  pub not_recorded : (place : ℕ) → kind_in found.row.now.asks ≡ None → record_of place all ≡ Err NoRecord
  not_recorded place n = recorded-by place ∙ no-kind found.place (row_in found.row.now) found.row.now.asks words n

  module _ (place : ℕ) {kind : Kind} (k : kind_in found.row.now.asks ≡ Some kind) {parameters : List Parameter}
      (w : parameters ≡ widened (parameters_in found.row.now.parameters)) where
    pub recorded : record_of place all ≡ reading found.place (Encode kind) parameters 3 words
    recorded = rw w (recorded-by place ∙ kind-read found.place (row_in found.row.now) found.row.now.asks words k)

    pub recorded-few : length parameters ≤ number_count
    recorded-few = rw w (rw length-map h.few)
