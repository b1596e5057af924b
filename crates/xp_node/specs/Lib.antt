pub mod Node
pub mod Books
pub mod Journal
pub mod JournalInside
pub mod Turning
pub mod NodeInside
