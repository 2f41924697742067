pub mod WordLaws
pub mod Runs
