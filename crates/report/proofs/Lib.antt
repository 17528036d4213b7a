-- The laws of the report: its writers, its sizes, numbers in decimal, the case of 01, and that its promise admits one result.
pub mod Writing
pub mod Sizes
pub mod Reports
pub mod One
pub mod Room
pub mod Decimal
pub mod Case
