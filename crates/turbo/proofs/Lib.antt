pub mod Encoder
pub mod Streams
pub mod Completing
pub mod Encodable
pub mod Bytes
pub mod Division
pub mod Stepping
pub mod InEights
