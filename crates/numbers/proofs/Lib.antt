pub mod Limits
pub mod Filling
pub mod Made
pub mod Held
pub mod RoundTrips
pub mod Examples
