pub mod Single
pub mod Numbers
pub mod SingleToC
pub mod InC
