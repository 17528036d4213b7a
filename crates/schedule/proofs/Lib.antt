-- The laws of schedules, for the proofs here and for callers.
pub mod Walks
pub mod Ranges
pub mod Tallies
pub mod Verdicts
pub mod Records
pub mod Parts
pub mod Laws
pub mod One
