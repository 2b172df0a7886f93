pub mod Inner
pub mod Buffer
