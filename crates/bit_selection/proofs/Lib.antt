pub mod ColumnBits
pub mod UnitBits
pub mod TurnBits
pub mod Rooms
pub mod Turns
pub mod Ring
pub mod Rest
pub mod Block
