pub mod Laid
pub mod Opened
