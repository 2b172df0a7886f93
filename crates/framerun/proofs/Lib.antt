pub mod Cases
pub mod Sound
pub mod Taken
pub mod Tick
pub mod Kept
pub mod Count
pub mod Refused
pub mod Slots
