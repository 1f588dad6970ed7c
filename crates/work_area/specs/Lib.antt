pub mod Regions
pub mod State
pub mod Synced
pub mod Mask
