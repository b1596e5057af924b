pub mod Acts
pub mod Becoming
pub mod Ends
pub mod Commands
pub mod Wanting
pub mod Noticing
