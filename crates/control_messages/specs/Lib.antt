pub mod Attachment
pub mod TailBiting
pub mod RateMatching
pub mod Printed
pub mod Message
pub mod Ownership
pub mod Calls
pub mod Working
