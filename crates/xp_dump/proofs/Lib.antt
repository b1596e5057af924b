pub mod Back
pub mod Feeding
pub mod Flat
pub mod Memories
pub mod Same
pub mod Steps
pub mod Taking
pub mod Whole
