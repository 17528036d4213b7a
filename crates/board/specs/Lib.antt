pub mod Board
pub mod Inside
