pub mod Viewed
pub mod SidesInside
