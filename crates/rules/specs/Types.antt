-- The types of src/, under short names, and what the calls give back by the paper: the refusal number first and the state last.
use Rattle.std.specs.Prelude.{ℕ, Bool}
pub use Rattle.rules.specs.declared.refusal.Refusal.{Refusal}
pub use Rattle.rules.specs.declared.ByteRead.{ByteRead}
pub use Rattle.rules.specs.declared.Made.{Made}
pub use Rattle.rules.specs.declared.Failed.{Failed}
pub use Rattle.rules.specs.declared.Channel.{Channel}
pub use Rattle.rules.specs.declared.Results.{Results}
pub use Rattle.rules.specs.declared.Registers.{Registers}
pub use Rattle.rules.specs.declared.StartValues.{StartValues}
pub use Rattle.rules.specs.declared.Timer.{Timer}
pub use Rattle.rules.specs.declared.State.{State}
pub use Rattle.rules.specs.declared.Conditions.{Conditions}
pub use Rattle.rules.specs.declared.BoxRegister.{BoxRegister}
pub use Rattle.rules.specs.declared.BoxRegister.TheVariants.{Control, Frequency, Mask2, Mask1, Options}
pub use Rattle.rules.specs.declared.ChannelRegister.{ChannelRegister}
pub use Rattle.rules.specs.declared.ChannelRegister.TheVariants.{Config, Dynamics, Window}
pub use Rattle.rules.specs.declared.WordRegister.{WordRegister}
pub use Rattle.rules.specs.declared.WordRegister.TheVariants.{Target, TargetCount}
pub use Rattle.rules.specs.declared.StatusRegister.{StatusRegister}
pub use Rattle.rules.specs.declared.StatusRegister.TheVariants.{Faults2, Faults1, Count, OtherCount, Output}
pub use Rattle.rules.specs.declared.Place.{Place}
pub use Rattle.rules.specs.declared.Place.TheVariants.{Absent, ReadOnly, Shared, Own, OwnWord}
pub use Rattle.rules.specs.declared.Speed.{Speed}
pub use Rattle.rules.specs.declared.Speed.TheVariants.{Rpm, Stopped, TooFast}
pub use Rattle.rules.specs.declared.Reading.{Reading}
pub use Rattle.rules.specs.declared.Call.{Call}
pub use Rattle.rules.specs.declared.Call.TheVariants.{Write, Read, Ticks, Tachometer, Pin, WriteWord, Pulse}

-- what a call gives that leaves a state
pub record Answer : Type 0 where
  pub refusal : ℕ
  pub state : State

-- a read
pub record ReadAnswer : Type 0 where
  pub refusal : ℕ
  pub byte : ℕ
  pub state : State

-- a FAN_FAIL query: whether it is asserted, how many unmasked channels have failed, and the lowest of them, or 0
pub record FanFailAnswer : Type 0 where
  pub refusal : ℕ
  pub asserted : Bool
  pub failed : ℕ
  pub lowest : ℕ
  pub state : State

-- a reading of clock and duties
pub record ReadingAnswer : Type 0 where
  pub refusal : ℕ
  pub reading : Reading
  pub state : State
