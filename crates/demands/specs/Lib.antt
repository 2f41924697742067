pub mod Matrix
pub mod Filling
pub mod Encoder
pub mod Ranges
pub mod Lent
pub mod Numbers
