pub mod Shown
pub mod Answers
pub mod Whole
pub mod Engine
