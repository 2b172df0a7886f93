pub mod Inner
pub mod Pieces
