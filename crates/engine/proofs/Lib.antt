-- The laws of a run, for the proofs here and for callers.
pub mod Readings
pub mod Turns
pub mod Logs
pub mod Copies
pub mod Openings
pub mod Hands
pub mod Kept
pub mod Steps
pub mod Worlds
pub mod Lasts
pub mod Idle
pub mod Plays
pub mod Runs
pub mod Refused
pub mod Posted
pub mod Sends
pub mod One
