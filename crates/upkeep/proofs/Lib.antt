pub mod Lines
pub mod Seen
pub mod Renaming
