pub mod Fields
pub mod Slots
pub mod Faults
