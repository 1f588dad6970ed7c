pub mod Bit
pub mod Within
pub mod Matrix
pub mod Fill
pub mod Stage
pub mod Cube
