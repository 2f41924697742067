pub mod Numbers
pub mod DownNumbers
pub mod Rooms
pub mod Sent
pub mod Stretches
