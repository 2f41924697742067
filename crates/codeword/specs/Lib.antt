pub mod Shares
pub mod Codeword
pub mod Build
pub mod Downlink
pub mod inner
