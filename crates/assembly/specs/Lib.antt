pub mod Assembled
pub mod Answers
