pub mod Layout
pub mod Calls
pub mod Reader
pub mod Inside
