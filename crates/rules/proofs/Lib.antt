-- What ties the definitions to the paper: words convert without loss, the map carries the listed registers, what writes are refused with,
-- which results are bad, which channels there are, that a count of pulses ends with its spin-up, and who may leave ramp value 0.
pub mod Tests
pub mod Words
pub mod Map
pub mod Refusals
pub mod Tachometer
pub mod Pulses
pub mod StartDelay
