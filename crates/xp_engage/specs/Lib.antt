pub mod Partner
pub mod Next
pub mod Learning
pub mod PartnerInside
pub mod Stored
