pub mod Hubs
pub mod Rows
pub mod Quiet
pub mod Wider
