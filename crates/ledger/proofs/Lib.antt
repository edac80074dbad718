pub mod Keeping
pub mod Blanks
