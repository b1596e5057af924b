pub mod Comes
pub mod Visits
pub mod Duties
pub mod Spots
pub mod Sources
pub mod Asked
pub mod Asides
