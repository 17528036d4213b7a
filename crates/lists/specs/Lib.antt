pub mod Tests
pub mod Searches
pub mod Lists
pub mod Bytes
pub mod Members
