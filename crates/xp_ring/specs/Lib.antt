pub mod Planned
pub mod Outcome
pub mod SenderInside
