pub mod Least
pub mod Needs
pub mod Looking
pub mod Numbers
pub mod Promises
