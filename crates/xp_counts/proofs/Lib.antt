mod Ends
mod Peers
pub mod States
pub mod Planned
