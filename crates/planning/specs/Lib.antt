pub mod Needs
pub mod Least
pub mod Worst
