pub mod Counting
pub mod Play
pub mod Worked
pub mod Wrong
pub mod Delivery
