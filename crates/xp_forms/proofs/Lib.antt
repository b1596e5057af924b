pub mod Fitting
pub mod Faulting
pub mod Valued
