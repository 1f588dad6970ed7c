pub mod Layers
pub mod Left
