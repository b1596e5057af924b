pub mod WordLemmas
pub mod NumberLemmas
pub mod Commands
pub mod Outcomes
