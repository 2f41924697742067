-- What the contracts of octets cite.
pub mod Bytes
