pub mod Undo
pub mod Slots
pub mod Frames
pub mod Lawful
pub mod LawfulParts
pub mod Opened
pub mod Named
mod Examples
