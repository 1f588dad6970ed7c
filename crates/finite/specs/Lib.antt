pub mod Logic
pub mod Below
pub mod Closure
pub mod Lists
pub mod Walk
pub mod Cycle
pub mod Count
pub mod Several
