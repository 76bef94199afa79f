pub mod Put
pub mod Values
