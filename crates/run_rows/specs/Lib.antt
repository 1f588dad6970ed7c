pub mod Cases
pub mod Early
pub mod Forms
pub mod Shared
