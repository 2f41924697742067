pub mod Numbers
pub mod StateBytes
