pub mod Heads
pub mod Taken
