pub mod PiecesExactly
pub mod Pieces
pub mod WriteExactly
pub mod Writer
pub mod StepExactly
pub mod Stepping
