pub mod Bits
pub mod Filter
pub mod Marked
pub mod Layer
