pub mod Lines
pub mod Payloads
pub mod Words
pub mod Text
