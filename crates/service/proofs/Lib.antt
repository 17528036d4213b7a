-- What the proofs of several functions use, and the laws for callers: Back, Through, One.
mod Forms
mod Shifts
pub mod Back
mod Ticks
mod Standing
mod Settled
mod Prefixes
mod Flats
mod Gathers
mod Sounds
mod Sizes
pub mod Through
pub mod One
mod Converts
