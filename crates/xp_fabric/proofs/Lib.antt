pub mod Closing
pub mod PassLemmas
pub mod RuleLemmas
pub mod StepLemmas
pub mod Weaving
