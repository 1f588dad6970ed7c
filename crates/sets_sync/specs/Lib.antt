pub mod Sync
pub mod Synced
