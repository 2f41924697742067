pub mod Table
pub mod Place
pub mod Rearrangement
pub mod Into
pub mod inner
