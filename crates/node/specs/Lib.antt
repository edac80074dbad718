pub mod Shows
pub mod Promises
pub mod Remaking
pub mod Agreeing
