pub mod Cases
pub mod Inner
pub mod Numbers
pub mod Page
