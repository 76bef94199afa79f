pub mod Readings
pub mod Taking
pub mod Parsing
pub mod Halves
pub mod Signs
