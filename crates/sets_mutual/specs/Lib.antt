pub mod Mutual
pub mod Later
