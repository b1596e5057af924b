pub mod LineByLine
pub mod Sound
pub mod LawfulScenarios
pub mod Spellings
