pub mod Words
pub mod Line
pub mod Standing
pub mod TableText
pub mod Read
pub mod Allowed
pub mod Write
