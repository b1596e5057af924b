pub mod Layouts
pub mod Table
