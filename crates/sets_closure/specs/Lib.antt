pub mod Classes
pub mod Widest
pub mod Reaching
