pub mod Change
pub mod Line
