-- The types of the rules, under short names.
pub use Rattle.rules.specs.declared.Channel.{Channel}
pub use Rattle.rules.specs.declared.Results.{Results}
pub use Rattle.rules.specs.declared.Registers.{Registers}
pub use Rattle.rules.specs.declared.StartValues.{StartValues}
pub use Rattle.rules.specs.declared.Timer.{Timer}
pub use Rattle.rules.specs.declared.State.{State}
pub use Rattle.rules.specs.declared.Conditions.{Conditions}
pub use Rattle.std.specs.Prelude.{Option, None, Some, Result, Ok, Err}
pub use Rattle.rules.specs.declared.refusal.Refusal.{Refusal}
pub use Rattle.rules.specs.declared.refusal.Refusal.TheVariants.{StateNotValid, SpeedOutOfRange}
pub use Rattle.rules.specs.declared.BoxRegister.{BoxRegister}
pub use Rattle.rules.specs.declared.BoxRegister.TheVariants.{Control, Frequency, Mask2, Mask1, Options}
pub use Rattle.rules.specs.declared.ChannelRegister.{ChannelRegister}
pub use Rattle.rules.specs.declared.ChannelRegister.TheVariants.{Config, Dynamics, Window}
pub use Rattle.rules.specs.declared.WordRegister.{WordRegister}
pub use Rattle.rules.specs.declared.WordRegister.TheVariants.{Target, TargetCount}
pub use Rattle.rules.specs.declared.Place.{Place}
pub use Rattle.rules.specs.declared.Place.TheVariants.{Absent, ReadOnly, Shared, Own, OwnWord}
pub use Rattle.rules.specs.Types.{Answer}
pub use Rattle.rules.specs.Types.{ReadAnswer}
pub use Rattle.rules.specs.Types.{FanFailAnswer}
pub use Rattle.rules.specs.declared.Speed.{Speed}
pub use Rattle.rules.specs.declared.Speed.TheVariants.{Rpm, Stopped, TooFast}
pub use Rattle.rules.specs.declared.Reading.{Reading}
pub use Rattle.rules.specs.Types.{ReadingAnswer}
pub use Rattle.rules.specs.declared.Call.{Call}
pub use Rattle.rules.specs.declared.Call.TheVariants.{Write, Read, Ticks, Tachometer, Pin, WriteWord, Pulse}
