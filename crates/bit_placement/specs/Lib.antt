pub mod Placement
pub mod inner
