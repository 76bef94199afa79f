-- The types of src/, under short names.
pub use Rattle.turns.specs.declared.Waiter.{Waiter}
pub use Rattle.turns.specs.declared.Waiter.TheVariants.{Waits, Left}
pub use Rattle.turns.specs.declared.Turns.{Turns}
