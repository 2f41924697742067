pub mod Putting
pub mod Along
pub mod Walking
pub mod Placed
