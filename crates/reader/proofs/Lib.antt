pub mod RoundUp
pub mod Standing
pub mod Inner
pub mod Line
pub mod TableText
pub mod Read
pub mod FrameText
