pub mod Tears
pub mod Cards
pub mod Promises
pub mod Change
pub mod Rows
pub mod Layouts
