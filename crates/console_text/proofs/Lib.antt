pub mod Digits
pub mod Runs
pub mod Frames
pub mod Spelling
pub mod Exact
pub mod RoundTrip
pub mod Lengths
pub mod Integers
