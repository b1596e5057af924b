pub mod Verbs
pub mod Lone
pub mod Commands
