-- What the proofs of several functions use, the laws for callers (Answers, Survivors, Partings, Limits), and that a promise admits one result.
pub mod Bits
pub mod Sizes
pub mod Ranges
mod PairLaws
mod Links
mod Repeats
mod Rows
mod Leasts
pub mod Distances
pub mod Connected
pub mod Answers
pub mod Survivors
mod Halves
mod Turns
mod Nexts
mod Diameters
mod Outs
pub mod Partings
pub mod Limits
pub mod One
