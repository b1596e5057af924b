pub mod Agreed
pub mod Clear
pub mod Copies
pub mod Standing
pub mod Onward
pub mod Stance
pub mod Judged
pub mod Recorded
pub mod HostStays
pub mod OldBits
pub mod Guests
pub mod Rising
pub mod SessionsKept
pub mod FlagsKept
pub mod Counted
pub mod LinesKept
mod FiveConnections
