mod EntryLoops
mod Encoding
pub mod Places
pub mod RowBytes
pub mod WatermarkBytes
mod Remembering
