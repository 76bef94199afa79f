pub mod Device
pub mod Texts
