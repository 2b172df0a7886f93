pub mod Rows
pub mod Rules
pub mod Inner
pub mod Line
pub mod Text
pub mod Exactly
