pub mod Held
pub mod Order
pub mod Changes
pub mod Rows
pub mod Fill
pub mod Weighed
