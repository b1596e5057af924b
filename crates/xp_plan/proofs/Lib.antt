pub mod Choices
pub mod Words
pub mod EndsCan
pub mod PeersCan
pub mod Permits
pub mod Visiting
pub mod Examples
