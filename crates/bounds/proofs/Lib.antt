pub mod Windows
pub mod Ledger
pub mod Split
pub mod Response
