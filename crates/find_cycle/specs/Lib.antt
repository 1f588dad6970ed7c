pub mod Shown
pub mod Marks
