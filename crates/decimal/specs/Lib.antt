pub mod Number
pub mod Lines
pub mod Room
pub mod Inner
