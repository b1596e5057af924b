pub mod BootInside
pub mod Booting
pub mod Looking
