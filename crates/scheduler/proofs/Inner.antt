pub mod Columns
pub mod Steps
pub mod Choose
pub mod Events
pub mod Many
