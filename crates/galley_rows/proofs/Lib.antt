-- What the proofs of these functions, and of the calls, share.
pub mod Signed
