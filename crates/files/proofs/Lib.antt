pub mod Handed
pub mod Turns
