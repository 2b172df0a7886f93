pub mod Queues
pub mod Sound
pub mod Inner
