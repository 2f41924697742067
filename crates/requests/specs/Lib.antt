pub mod Verbs
pub mod Numbers
pub mod Request
