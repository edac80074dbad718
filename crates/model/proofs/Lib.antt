pub mod Admitted
pub mod OnBytes
