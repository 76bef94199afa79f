-- What a line answers, however long it is, and what is in hand after it.
use Rattle.std.specs.Prelude.{ℕ, ◌≡◌, List, take}
use Rattle.lent.specs.declared.Page.{Page}
use Rattle.console_text.specs.declared.gathered.Ended.{Ended}
use Rattle.console_text.specs.declared.gathered.Ended.TheVariants.{Skipped, TooLong, Whole}
use Rattle.console_text.specs.Words.{ended_of}
use Rattle.console_outcome.specs.declared.hand.Hand.{Hand}
use Rattle.console.specs.Answers.{Stays, AnswersLine}

-- what is in hand, the page before and after, and what is left in hand
module _ (hand : Hand) (before after : Page) (left : Hand) where
  -- "is skipped and answers nothing"; "a line longer than 4,096 bytes .. changes nothing"
  abbrev pub AnswersBy : Ended → List ℕ → Type 0
  AnswersBy Skipped line = (left ≡ hand) × (after ≡ before)
  AnswersBy TooLong line = Stays hand before after left
  AnswersBy (Whole end) line = AnswersLine hand before after left (take end line)

  -- a line that has ended, with so many bytes kept of so many in all
  abbrev pub AnswersEnded : ℕ → ℕ → List ℕ → Type 0
  AnswersEnded kept total line = AnswersBy (ended_of kept total line) line
