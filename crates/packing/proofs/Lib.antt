pub mod Places
pub mod Forms
pub mod Changing
pub mod Rooms
pub mod Carried
pub mod Stores
pub mod Opened
pub mod SmallPlaces
