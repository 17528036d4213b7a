-- What the proofs of several functions use, and the laws for callers.
pub mod Numbers
pub mod Sets
pub mod Blanks
pub mod Slides
pub mod Facts
pub mod Lists
pub mod Answered
pub mod Writes
pub mod Fresh
pub mod Names
pub mod Fronts
pub mod Keeps
mod Looking
pub mod Owns
pub mod Sounds
pub mod Outcomes
pub mod Refusals
pub mod AsPublished
pub mod One
