pub mod Failing
pub mod Writing
pub mod Rows
pub mod Judging
