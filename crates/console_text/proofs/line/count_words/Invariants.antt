-- The words passed and those still to come are all the words.
use Rattle.std.proofs.Common.{◌≡◌, ◌+◌, ◌-◌, ◌≤◌, length, drop}
use Rattle.console_text.specs.Words.{words_of}
use Rattle.console_text.proofs.line.count_words.Given as goal

abbrev pub invariant-loop-word : goal.invariant-loop-word
invariant-loop-word l =
    (l.at ≤ length l.line) × (l.words ≤ l.at) × (l.words + length (words_of (drop l.at l.line)) ≡ length (words_of l.line))

abbrev pub decreases-loop-word : goal.decreases-loop-word
decreases-loop-word l = length l.line - l.at
