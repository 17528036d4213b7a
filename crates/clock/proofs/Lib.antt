-- What the proofs of several functions use, the laws for callers, and that a promise admits one result.
mod Sums
pub mod Laws
pub mod One
