pub mod Words
pub mod Shows
pub mod Promises
pub mod Runs
pub mod Making
pub mod Tallies
