mod Sides
mod Ends
mod Peers
pub mod Notices
pub mod States
