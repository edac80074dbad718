pub mod Following
pub mod Showing
pub mod Judging
pub mod Taking
pub mod Remaking
pub mod Waking
