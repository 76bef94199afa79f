-- What is demanded of the galley, proved; and what ties its rows to 000's table.
pub mod Temperature
pub mod Hysteresis
pub mod Ladders
pub mod Degrees
pub mod Force
pub mod Drive
pub mod Keep
