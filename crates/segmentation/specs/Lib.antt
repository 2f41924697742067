pub mod Segmentation
pub mod Wording
pub mod CodeBlocks
pub mod Sizes
pub mod Into
