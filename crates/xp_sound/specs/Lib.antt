pub mod Consistent
pub mod Told
