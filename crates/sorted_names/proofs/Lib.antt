pub mod Ordered
pub mod Searching
pub mod Climbing
pub mod Dropping
