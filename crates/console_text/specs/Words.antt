-- The words of a line.
use Rattle.std.specs.Prelude.{ℕ, ◌-◌, ◌≤◌, ◌<◌, ◌≡◌, Bool, true, ◌||◌, List, [], ◌∷◌, length, get_or, take, drop, eqb, ltb, if◌then◌else◌, Option, Some, None}
use Rattle.std.specs.Bool.{beq}
use Rattle.std.specs.List.{prefix_len}
use Rattle.console_text.specs.declared.gathered.Ended.{Ended}
use Rattle.console_text.specs.declared.gathered.Ended.TheVariants.{Skipped, TooLong, Whole}
use Rattle.console_text.specs.declared.line.Word.{Word}

-- "Words are separated by spaces or tabs"
abbrev pub is_blank : ℕ → Bool
is_blank byte = eqb byte 32 || eqb byte 9

-- no word goes on here: the line ends, or a blank comes first
abbrev pub parted : List ℕ → Bool
parted [] = true
parted (byte ∷ line) = is_blank byte

-- words whose first begins with one byte more
abbrev pub lengthened : ℕ → List (List ℕ) → List (List ℕ)
lengthened byte [] = (byte ∷ []) ∷ []
lengthened byte (word ∷ words) = (byte ∷ word) ∷ words

-- the words of a line, in their order: a blank adds nothing, and any other byte is a word of its own or lengthens the next
unfoldable pub words_of : List ℕ → List (List ℕ)
words_of [] = []
words_of (byte ∷ line) =
    if is_blank byte then words_of line
    else if parted line then (byte ∷ []) ∷ words_of line
    else lengthened byte (words_of line)

-- how many bytes a line begins with that are blank; or that are not
unfoldable pub run_of : Bool → List ℕ → ℕ
run_of blank line = prefix_len (λ byte. beq (is_blank byte) blank) line

-- the words that begin with the one that was found
abbrev pub words_from : List ℕ → Option Word → List (List ℕ)
words_from line None = []
words_from line (Some word) = take (word.end - word.begin) (drop word.begin line) ∷ words_of (drop word.end line)

-- a word that was found lies in the line, from an index on, and has a byte
abbrev pub Lies : List ℕ → ℕ → Option Word → Type 0
Lies line from None = Unit {0}
Lies line from (Some word) = (from ≤ word.begin) × (word.begin < word.end) × (word.end ≤ length line)

-- the first word of a line from an index on
pub record Finds (line : List ℕ) (from : ℕ) (word : Option Word) : Type 0 where
  pub words : words_of (drop from line) ≡ words_from line word
  pub lies : Lies line from word

-- "A carriage return before the line's end is ignored": how many bytes of a line count
unfoldable pub counted : List ℕ → ℕ
counted line = if eqb (get_or line (length line - 1) 0) 13 then length line - 1 else length line

-- ---- what a line is that has ended, however long it is

-- "A line that is empty, blank, or whose first word begins with `#` is skipped"
abbrev pub skipped_of : List (List ℕ) → Bool
skipped_of [] = true
skipped_of (word ∷ words) = eqb (get_or word 0 0) 35

-- a line of which so many bytes were kept, of so many in all. "A carriage return before the line's end is ignored"; it "is skipped and
-- answers nothing, however long it is"; "a line longer than 4,096 bytes" is no call
unfoldable pub ended_of : ℕ → ℕ → List ℕ → Ended
ended_of kept total line =
    let end = counted (take kept line) in
    if skipped_of (words_of (take end (take kept line))) then Skipped
    else if ltb 4_096 (total - (kept - end)) then TooLong
    else Whole end
