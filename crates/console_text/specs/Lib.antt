pub mod Ascii
pub mod Number
pub mod Words
pub mod Frame
pub mod Decimal
pub mod Fraction
pub mod Signed
