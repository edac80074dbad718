pub mod Probing
pub mod Places
pub mod Inserting
pub mod Sound
pub mod Apart
pub mod Table
pub mod Rebuilding
