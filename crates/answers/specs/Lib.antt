pub mod Rows
pub mod SizesRow
pub mod WorstRow
