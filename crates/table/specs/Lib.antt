pub mod Refusals
pub mod Rows
pub mod Rules
pub mod Pairs
pub mod Inner
pub mod Example
