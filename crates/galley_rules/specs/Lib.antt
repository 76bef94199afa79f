-- The galley box, in the order of "Facts kept for the galley box" and of K5.
pub mod Types
pub mod Temperature
pub mod Galley
pub mod Table
pub mod Sample
pub mod Span
pub mod Degrees
pub mod Refusals
pub mod Demands
