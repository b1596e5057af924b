pub mod Below
pub mod DistinctWarms
