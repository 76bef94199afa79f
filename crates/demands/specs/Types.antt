-- The types of the rules, under short names.
pub use Rattle.rules.specs.declared.Channel.{Channel}
pub use Rattle.rules.specs.declared.Results.{Results}
pub use Rattle.rules.specs.declared.State.{State}
pub use Rattle.rules.specs.declared.Conditions.{Conditions}
pub use Rattle.std.specs.Prelude.{Option, None, Some, Ok}
pub use Rattle.rules.specs.declared.StatusRegister.{StatusRegister}
pub use Rattle.rules.specs.declared.StatusRegister.TheVariants.{Count, Output}
pub use Rattle.rules.specs.declared.WordRegister.{WordRegister}
pub use Rattle.rules.specs.declared.WordRegister.TheVariants.{Target, TargetCount}
pub use Rattle.rules.specs.declared.Place.TheVariants.{ReadOnly}
pub use Rattle.rules.specs.Types.{Answer}
pub use Rattle.rules.specs.Types.{ReadAnswer}
pub use Rattle.rules.specs.declared.Speed.TheVariants.{Rpm}
pub use Rattle.rules.specs.declared.Call.{Call}
pub use Rattle.rules.specs.declared.Call.TheVariants.{Write, Read, Ticks, Tachometer, Pin, WriteWord, Pulse}
