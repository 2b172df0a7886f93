pub mod Count
pub mod Page
