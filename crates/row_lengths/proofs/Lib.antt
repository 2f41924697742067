mod Numbers
mod Refusals
mod Answers
mod Sizes
mod Asked
mod Slots
mod Builds
pub mod Rows
pub mod Reached
