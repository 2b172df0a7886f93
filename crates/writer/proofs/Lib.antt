pub mod Write
