pub mod Turning
pub mod World
pub mod Replay
