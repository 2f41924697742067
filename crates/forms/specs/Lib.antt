pub mod Calls
pub mod Change
pub mod Run
pub mod After
