pub mod Bits
pub mod Ring
