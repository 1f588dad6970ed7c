pub mod Filling
pub mod Given
pub mod Chains
pub mod Reach
pub mod Order
pub mod Domains
