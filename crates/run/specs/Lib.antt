pub mod Agents
pub mod Layout
pub mod Dependencies
