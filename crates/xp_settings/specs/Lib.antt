pub mod Words
pub mod Tests
pub mod Settings
pub mod Lawful
