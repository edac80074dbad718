pub mod Kinds
pub mod Frames
pub mod Calls
pub mod Reading
pub mod Handed
pub mod Writing
pub mod Spelt
