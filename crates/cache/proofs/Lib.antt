pub mod Refreshing
pub mod Same
