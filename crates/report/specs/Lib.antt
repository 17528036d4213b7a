pub mod Text
pub mod Calls
pub mod Inside
