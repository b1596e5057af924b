pub mod Causes
pub mod Forms
pub mod Fits
pub mod Values
