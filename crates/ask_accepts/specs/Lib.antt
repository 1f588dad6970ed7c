pub mod Syncing
pub mod Judging
