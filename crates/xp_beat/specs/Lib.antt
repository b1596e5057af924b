pub mod BeatInside
pub mod WatchInside
pub mod Checking
