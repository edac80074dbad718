pub mod Layout
pub mod Reading
pub mod Meaning
pub mod Edits
