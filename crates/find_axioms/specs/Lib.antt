pub mod Sources
pub mod Edges
pub mod Overwritten
