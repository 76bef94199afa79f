pub mod AfterTurns
pub mod Wrapping
pub mod Each
