-- The demands hold.
pub mod Queue
pub mod Elapsed
pub mod Trials
pub mod Stopped
pub mod InOneGo
pub mod Pulses
pub mod OneAtATime
