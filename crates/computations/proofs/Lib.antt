mod Loaded
pub mod Places
