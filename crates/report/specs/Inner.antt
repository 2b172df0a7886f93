-- Only contracts of inner functions cite these files; a buyer need not read them.
pub mod Count
pub mod Page
