pub mod Wordings
pub mod Matrix
pub mod Filling
pub mod Encoder
pub mod Stretch
pub mod Codeword
pub mod Ranges
pub mod Numbers
mod Outcomes
pub mod Answers
pub mod Slots
pub mod PastRooms
pub mod Exports
pub mod Opened
pub mod Accepted
pub mod Release
