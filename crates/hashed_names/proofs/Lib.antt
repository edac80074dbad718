pub mod Storing
pub mod Chains
pub mod Keeping
