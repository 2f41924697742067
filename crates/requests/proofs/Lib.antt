pub mod Forms
pub mod WrittenBits
pub mod Asked
