pub mod LawfulCommands
