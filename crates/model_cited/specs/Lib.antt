pub mod Terms
pub mod Tables
pub mod Pieces
pub mod JoinedBytes
pub mod Writer
pub mod ReadExactly
pub mod Stepping
pub mod StepExactly
