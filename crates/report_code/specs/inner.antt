pub mod Counted
pub mod Counts
pub mod Search
