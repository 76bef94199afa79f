pub mod Rows
pub mod Parts
pub mod Order
pub mod Places
