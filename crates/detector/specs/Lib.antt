pub mod Detector
pub mod Laws
