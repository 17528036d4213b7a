pub mod Shape
pub mod Schedule
pub mod Rules
pub mod Calls
pub mod Inside
