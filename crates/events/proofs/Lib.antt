pub mod Answers
pub mod Values
pub mod Boxes
pub mod Count
