pub mod Pairs
pub mod BytesBack
