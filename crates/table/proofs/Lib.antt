pub mod Rows
pub mod Pairs
pub mod Inner
pub mod Rules
