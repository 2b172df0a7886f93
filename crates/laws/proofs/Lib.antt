pub mod Choice
pub mod Search
pub mod Rows
pub mod Highest
pub mod Anew
pub mod RoundUp
pub mod Climb
