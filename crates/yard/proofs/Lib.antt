mod Given
mod Calls
pub mod Lines
