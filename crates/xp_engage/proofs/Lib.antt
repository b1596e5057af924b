pub mod Stepping
pub mod Permitted
