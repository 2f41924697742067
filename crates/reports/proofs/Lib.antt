pub mod Shape
pub mod Built
pub mod Parted
