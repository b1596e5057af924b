pub mod Anew
pub mod Noticed
pub mod Answers
pub mod Names
pub mod Clean
pub mod Missed
pub mod Promises
