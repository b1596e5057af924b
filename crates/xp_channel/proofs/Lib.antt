pub mod Silent
pub mod Settling
pub mod Beginning
pub mod Permitted
pub mod Telling
pub mod Refusing
pub mod Errands
