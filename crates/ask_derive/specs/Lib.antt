pub mod Cases
pub mod Found
pub mod Layers
pub mod Whole
