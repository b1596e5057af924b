pub mod Working
pub mod Jobs
pub mod Running
