pub mod Stepping
pub mod Changing
pub mod Telling
pub mod Counting
