pub mod Matcher
pub mod inner
