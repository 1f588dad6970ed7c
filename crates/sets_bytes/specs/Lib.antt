pub mod Masks
pub mod Shifts
pub mod Whole
