pub mod Types
pub mod Turns
pub mod Departures
