pub mod Rewritten
