pub mod Header
pub mod Message
