pub mod Cases
pub mod Delayers
pub mod Fitting
pub mod Delays
pub mod Interference
pub mod Least
pub mod Verdicts
