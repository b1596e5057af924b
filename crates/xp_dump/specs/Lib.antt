pub mod Grammar
pub mod Parts
pub mod Progress
pub mod Stages
pub mod Standing
pub mod Tapes
pub mod Texts
