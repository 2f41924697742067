pub mod FirstRow
pub mod Segmentation
pub mod Worked
pub mod CodeBlocks
pub mod Tails
pub mod Both
pub mod Payload
pub mod Into
