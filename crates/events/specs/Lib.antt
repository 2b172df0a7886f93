pub mod Answers
pub mod Count
pub mod Values
pub mod Boxes
