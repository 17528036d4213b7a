-- The laws of fields, for the proofs here and for callers.
pub mod Placing
pub mod Checks
pub mod Reading
pub mod Parts
pub mod SlotLaws
pub mod One
