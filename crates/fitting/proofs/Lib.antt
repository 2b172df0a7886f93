pub mod Cases
pub mod Fits
