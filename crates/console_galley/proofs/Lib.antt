pub mod Parts
pub mod Telling
pub mod Exact
