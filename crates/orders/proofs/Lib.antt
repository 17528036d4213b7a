-- The laws of orders, for callers, and that a promise admits one result.
pub mod Laws
pub mod One
