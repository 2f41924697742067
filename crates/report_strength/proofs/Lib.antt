pub mod Weights
pub mod Apart
pub mod AllWords
pub mod Promises
