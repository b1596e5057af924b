pub mod Status
pub mod Words
pub mod Command
pub mod Input
pub mod Plain
pub mod Made
