pub mod Opened
pub mod Runs
pub mod ShortcutRuns
pub mod RequestRuns
pub mod HostRuns
pub mod ChainRuns
pub mod OrderRuns
pub mod MovedRuns
