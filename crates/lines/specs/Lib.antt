pub mod Digits
pub mod Line
pub mod Numbers
pub mod Put
pub mod Row
pub mod Text
