pub mod Turns
pub mod Parts
pub mod Run
pub mod Calls
pub mod Inside
