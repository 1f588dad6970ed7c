pub mod Counted
pub mod Sums
pub mod Pair
pub mod Search
