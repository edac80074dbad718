pub mod Counting
mod Played
