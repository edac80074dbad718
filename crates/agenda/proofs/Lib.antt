mod Holding
pub mod Choosing
mod Fresh
mod Standing
