pub mod Cases
pub mod Frame
