pub mod Closed
pub mod OwnerParts
pub mod Rules
