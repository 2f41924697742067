pub mod Outcome
pub mod Calls
pub mod SlotsToC
pub mod HistoryInC
