pub mod Fits
pub mod Inner
pub mod Verdict
