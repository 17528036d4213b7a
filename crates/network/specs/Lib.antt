pub mod Network
pub mod Inside
