pub mod Sums
pub mod ColumnSums
pub mod Bytes
pub mod Rows
pub mod Gathering
pub mod Lacking
pub mod Runs
