pub mod Cases
pub mod Inner
pub mod Queues
pub mod Sound
