pub mod Script
pub mod Stops
pub mod Account
