pub mod Choice
pub mod Search
pub mod Rows
pub mod RoundUp
pub mod Quoted
