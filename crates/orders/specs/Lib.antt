pub mod Orders
pub mod Rules
