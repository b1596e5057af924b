pub mod LineLemmas
pub mod WordLemmas
pub mod PayloadLemmas
pub mod DigitLemmas
pub mod ByteLemmas
pub mod LengthLemmas
