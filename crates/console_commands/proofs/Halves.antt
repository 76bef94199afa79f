-- The bytes of a line have room: each takes two digits of it.
use Prim.Native.Nat.{ℕ, suc, ◌+◌, ◌*◌, ◌≤◌}
use mathlib.Core.Path.{◌≡◌, refl}
use mathlib.Core.List.{List, [], ◌∷◌}
use native.Mathlib.Omega.{arith}
use lib.ListN.{length, length-append}
use lib.Dec.{eqb}
use Rattle.rules.proofs.Tests.{by-test}
use Rattle.std.specs.Prelude.{Option, Some, None}
use Rattle.console_text.specs.Words.{is_blank, parted, lengthened, words_of}
use Rattle.console_hex.proofs.Pairs.{spelled-half}
use Rattle.console_table.specs.declared.Asks.{Asks}
use Rattle.console_table.specs.declared.Asks.TheVariants.{For, Record}
use Rattle.console_table.specs.declared.Parameter.{Parameter}
use Rattle.console_table.specs.declared.Parameter.TheVariants.{Number, Signed, Bytes}
use Rattle.console_table.specs.declared.Request.TheVariants as request
use Rattle.console_commands.specs.declared.Parsed.{Parsed}
use Rattle.console_commands.specs.declared.Parsed.TheVariants as parsed
use Rattle.console_table.specs.Table.{Row, Named, named_by}
use Rattle.console_commands.specs.Commands.{bytes_as, bytes_in, reading, widened, record_by, record_as, record_of, line_by, line_as, line_of, bytes_by, bytes_of, NoneLeftOut}

-- how many bytes words have together: no more than their line
abbrev total : List (List ℕ) → ℕ
total [] = 0
total (word ∷ words) = length word + total words

longer : (byte : ℕ) (words : List (List ℕ)) → total (lengthened byte words) ≡ suc (total words)
longer byte [] = refl
longer byte (word ∷ words) = omega arith

words-within : (line : List ℕ) → total (words_of line) ≤ length line
unfolding words_of
words-within [] = omega arith
words-within (byte ∷ line) =
    let rest = words-within line in
    by-test (is_blank byte) (λ t. rw t (omega (arith, rest)))
    (λ f.
    by-test (parted line) (λ t. rw (f, t) (omega (arith, rest)))
    (λ g. rw (f, g, longer byte (words_of line)) (omega (arith, rest))))

-- their bytes are at most half as many
parameter-half : (parameter : Parameter) (word : List ℕ) → 2 * length (bytes_as parameter word) ≤ length word
parameter-half (Number most) word = omega arith
parameter-half (Signed most) word = omega arith
parameter-half Bytes word = spelled-half word

bytes-half : (parameters : List Parameter) (words : List (List ℕ)) → 2 * length (bytes_in parameters words) ≤ total words
unfolding bytes_in
bytes-half [] words = omega arith
bytes-half (parameter ∷ parameters) [] = omega arith
bytes-half (parameter ∷ parameters) (word ∷ words) =
    rw length-append (omega (arith, parameter-half parameter word, bytes-half parameters words))

reading-half : (i : ℕ) (line : Parsed) (parameters : List Parameter) (first : ℕ) (words : List (List ℕ)) →
    2 * length (bytes_by (reading i line parameters first words)) ≤ total words
reading-half i line parameters first words =
    by-test (eqb (length words) (length parameters)) (λ t. rw t (bytes-half parameters words)) (λ f. rw f (omega arith))

record-half-by : (i : ℕ) (row : Row) (asks : Asks) (words : List (List ℕ)) → 2 * length (bytes_by (record_by i row asks words)) ≤ total words
record-half-by i row (For (request.Call kind)) words = reading-half i (parsed.Encode kind) (widened row.parameters) 3 words
record-half-by i row (For (request.Verb verb)) words = omega arith
record-half-by i row (For (request.View view)) words = omega arith
record-half-by i row Record words = omega arith

record-half-as : (named : Option Named) (words : List (List ℕ)) → 2 * length (bytes_by (record_as named words)) ≤ total words
record-half-as None words = omega arith
record-half-as (Some named) words = record-half-by named.place named.row named.row.asks words

record-half : (i : ℕ) (words : List (List ℕ)) → 2 * length (bytes_by (record_of i words)) ≤ total words
unfolding record_of
record-half i [] = omega arith
record-half i (word ∷ words) = omega (arith, record-half-as (named_by word) words)

asks-half : (i : ℕ) (row : Row) (asks : Asks) (words : List (List ℕ)) → 2 * length (bytes_by (line_by i row asks words)) ≤ total words
asks-half i row (For asked) words = reading-half i (parsed.For asked) row.parameters 2 words
asks-half i row Record words = record-half i words

named-half : (named : Option Named) (words : List (List ℕ)) → 2 * length (bytes_by (line_as named words)) ≤ total words
named-half None words = omega arith
named-half (Some named) words = asks-half named.place named.row named.row.asks words

line-half : (words : List (List ℕ)) → 2 * length (bytes_of words) ≤ total words
unfolding bytes_of line_of
line-half [] = omega arith
line-half (word ∷ words) = omega (arith, named-half (named_by word) words)

pub none-left-out : NoneLeftOut
none-left-out line h = omega (arith, h, line-half (words_of line), words-within line)
