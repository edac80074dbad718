pub mod Counter
pub mod Minutes
pub mod Laws
pub mod Steps
pub mod Opened
pub mod Stored
