pub mod LawfulGenerated
