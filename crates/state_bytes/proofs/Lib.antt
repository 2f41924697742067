pub mod Bytes
pub mod Finished
pub mod Back
pub mod Heads
pub mod Handed
