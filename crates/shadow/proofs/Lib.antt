pub mod Switching
pub mod Committing
pub mod Waking
