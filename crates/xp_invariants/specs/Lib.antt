pub mod Between
pub mod Hosts
pub mod Sessions
pub mod Flags
pub mod Lines
pub mod Limits
