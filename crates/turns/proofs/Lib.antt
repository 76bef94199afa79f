pub mod Next
pub mod Rounds
pub mod Tick
