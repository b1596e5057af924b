pub mod Worlds
pub mod Partitions
pub mod Stepping
pub mod Replays
pub mod Schedules
pub mod Each
pub mod Turned
pub mod Promising
