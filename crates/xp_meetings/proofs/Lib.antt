pub mod Words
pub mod Gets
pub mod Parts
pub mod Always
pub mod Links
pub mod Opening
pub mod Bits
pub mod Ties
pub mod Both
pub mod Six
pub mod Meets
pub mod Starts
pub mod Firsts
pub mod Touch
mod Agrees
mod Comes
