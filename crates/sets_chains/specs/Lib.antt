pub mod Alone
pub mod Chained
pub mod Filled
pub mod Wide
pub mod Made
pub mod Availability
