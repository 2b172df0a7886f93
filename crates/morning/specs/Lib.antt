pub mod Numbers
pub mod Page
pub mod Inner
