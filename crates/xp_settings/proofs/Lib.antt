pub mod LawfulSettings
