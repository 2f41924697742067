pub mod Circle
pub mod inner
