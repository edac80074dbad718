pub mod Fields
pub mod Words
pub mod Numerals
pub mod Parsed
pub mod Left
pub mod Lines
pub mod Fronts
pub mod Wants
