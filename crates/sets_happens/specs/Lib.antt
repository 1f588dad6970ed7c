pub mod Adds
pub mod Adding
pub mod Program
pub mod Behind
