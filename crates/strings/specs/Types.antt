-- The types of src/ and those of the rules that order strings speak of, under short names; and what is read and run, by the paper's
-- numbers.
use Rattle.std.specs.Prelude.{ℕ}
pub use Rattle.rules.specs.declared.State.{State}
pub use Rattle.rules.specs.Types.{ReadAnswer}
pub use Rattle.rules.specs.declared.Call.{Call}
pub use Rattle.strings.specs.declared.Stage.{Stage}
pub use Rattle.strings.specs.declared.Stage.TheVariants.{Kind, WriteAddress, WriteByte, ReadAddress, TickCount, ResultChannel, ResultCount, PinLevel, WordAddress, WordValue, PulseChannel}
pub use Rattle.strings.specs.Partial.{Partial}
pub use Rattle.strings.specs.declared.order.Order.{Order}
pub use Rattle.strings.specs.Group.{Group}
pub use Rattle.strings.specs.Step.{Step}
pub use Rattle.strings.specs.Found.{Found}

-- what a run gives back, besides the answers in their buffer: how many records it took, and how many answer bytes there are
pub record RunAnswer : Type 0 where
  pub refusal : ℕ
  pub taken : ℕ
  pub answered : ℕ
  pub state : State
