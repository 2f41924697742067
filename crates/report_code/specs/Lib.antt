pub mod Basis
pub mod Code
pub mod Words
pub mod Nearest
pub mod inner
