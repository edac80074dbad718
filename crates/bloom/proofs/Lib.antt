pub mod Words
pub mod Marking
