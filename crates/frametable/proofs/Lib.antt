pub mod Cases
pub mod Inner
pub mod Rows
pub mod Rules
pub mod Text
pub mod TextExactly
pub mod TextCases
