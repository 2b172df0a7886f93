pub mod Buffer
pub mod Night
