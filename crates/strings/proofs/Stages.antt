-- The kinds of records: what has been read before a stage, and what holds after every kind.
use Prim.Native.Nat.{ℕ}
use mathlib.Core.Path.{◌≡◌, refl}
use mathlib.Core.List.{List, [], ◌∷◌}
use lib.Dec.{eqb}
use borrow.Author.Tests.{eqb-true}
use Rattle.std.specs.Prelude.{if◌then◌else◌}
use Rattle.rules.proofs.Tests.{choice}
use Rattle.strings.specs.Types.{Stage, Kind, WriteAddress, WriteByte, ReadAddress, TickCount, ResultChannel, ResultCount, PinLevel, WordAddress, WordValue, PulseChannel, Step}
use Rattle.strings.specs.Step.{More, Refused}
use Rattle.strings.specs.Record.{no_record, write_kind, read_kind, ticks_kind, tachometer_kind, pin_kind, write_word_kind, pulse_kind, begun, kind_of}

-- the numbers of a record that were read before a stage
abbrev pub earlier : Stage → List ℕ
earlier Kind = []
earlier WriteAddress = write_kind ∷ []
earlier (WriteByte address) = write_kind ∷ address ∷ []
earlier ReadAddress = read_kind ∷ []
earlier TickCount = ticks_kind ∷ []
earlier ResultChannel = tachometer_kind ∷ []
earlier (ResultCount channel) = tachometer_kind ∷ channel ∷ []
earlier PinLevel = pin_kind ∷ []
earlier WordAddress = write_word_kind ∷ []
earlier (WordValue address) = write_word_kind ∷ address ∷ []
earlier PulseChannel = pulse_kind ∷ []

-- what holds of the stage after each kind, and of 13, holds of whatever a number makes as a kind
module _ (P : Step → Type 0) (n : ℕ) (known : (stage : Stage) → earlier stage ≡ n ∷ [] → P (More (begun stage))) (unknown : P (Refused no_record)) where
  is-or : (kind : ℕ) (stage : Stage) → earlier stage ≡ kind ∷ [] → (other : Step) → P other → P (if eqb n kind then More (begun stage) else other)
  is-or kind stage read other holds =
      choice P (eqb n kind) (More (begun stage)) other (λ e. known stage (rw (eqb-true n kind e) read)) (λ _. holds)

  pub by_kind : P (kind_of n)
  unfolding kind_of
  by_kind =
      is-or write_kind WriteAddress refl _
      (is-or read_kind ReadAddress refl _
      (is-or ticks_kind TickCount refl _
      (is-or tachometer_kind ResultChannel refl _
      (is-or pin_kind PinLevel refl _
      (is-or write_word_kind WordAddress refl _
      (is-or pulse_kind PulseChannel refl _ unknown))))))
