pub mod Encoder
pub mod Streams
pub mod Encode
pub mod inner
