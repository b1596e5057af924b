pub mod Direction
pub mod Ring
pub mod FlagEnds
pub mod FlagKept
pub mod Books
pub mod Ways
pub mod Rests
pub mod Fields
pub mod Lines
pub mod FlagUse
pub mod Arguments
pub mod Steps
pub mod Shakes
mod Registers
pub mod Contacts
mod Peers
pub mod Places
pub mod Moves
pub mod Queue
mod Withdrawn
pub mod Headline
mod Freed
pub mod Notices
pub mod Own
pub mod Owns
pub mod Before
pub mod Guard
pub mod Reuses
pub mod NoticesKept
mod Uses
mod Witness
mod Widest
mod RunWitness
pub mod Versions
pub mod Known
