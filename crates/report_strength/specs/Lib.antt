pub mod Strength
