-- What the proofs of several functions use, also those of a board in flat places, and the laws for callers: Laws.
mod Cells
pub mod Effects
pub mod Placing
pub mod Sounds
pub mod Boards
pub mod Makings
mod Settling
pub mod Laws
pub mod One
pub mod Stands
