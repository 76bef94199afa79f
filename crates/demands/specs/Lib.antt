-- The demands that speak of whole spans of time, and the trials of the paper.
pub mod Types
pub mod Elapsed
pub mod Trials
pub mod InOneGo
pub mod Pulses
pub mod OneAtATime
