pub mod Answers
pub mod Handed
pub mod Sources
pub mod Turns
