pub mod State
pub mod Sound
pub mod Release
pub mod Tick
pub mod Events
pub mod Many
