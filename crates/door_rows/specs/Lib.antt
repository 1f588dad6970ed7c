pub mod Places
pub mod Starts
pub mod Instances
pub mod Shares
