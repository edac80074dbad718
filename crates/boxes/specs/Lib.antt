pub mod Parts
pub mod Account
