mod Telling
mod Sending
mod Linking
pub mod Running
mod Tallying
