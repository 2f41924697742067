pub mod Division
pub mod CheckBits
pub mod Put
pub mod inner
