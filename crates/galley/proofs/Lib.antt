-- What the proofs of the galley's calls share.
pub mod Cut
