pub mod Openings
pub mod Passes
pub mod Ports
pub mod Rule
pub mod Steps
pub mod Views
