pub mod Planned
pub mod Outcome
pub mod Cached
pub mod Keeping
pub mod Taking
pub mod ReceiverInside
