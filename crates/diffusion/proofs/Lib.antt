-- The proof of demand 3 over the laws of any host.
pub mod Laws
pub mod Diffuse
pub mod Life
pub mod Starts
pub mod Spread
pub mod Reach
pub mod Sequences
pub mod Agreement
pub mod Theorem
pub mod Plans
pub mod Answered
pub mod Ours
pub mod OurStarts
pub mod OurCopies
pub mod Follows
pub mod Boards
pub mod Demand3
pub mod Decided
pub mod Example
mod Compared
pub mod Witnesses
pub mod Written
