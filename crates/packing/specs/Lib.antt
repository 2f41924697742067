pub mod Packing
pub mod Change
pub mod Store
