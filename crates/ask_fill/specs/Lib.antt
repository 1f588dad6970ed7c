pub mod Parts
pub mod Whole
pub mod SameLaws
pub mod Same
