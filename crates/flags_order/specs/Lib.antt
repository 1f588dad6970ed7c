pub mod Cases
pub mod Sets
pub mod Steps
pub mod System
