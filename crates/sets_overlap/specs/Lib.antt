pub mod Overlap
pub mod Locations
