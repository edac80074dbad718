pub mod Listing
pub mod Counting
pub mod Adding
