pub mod Inner
pub mod Printing
