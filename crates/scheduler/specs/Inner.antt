-- Only contracts of inner functions cite these files; a buyer need not read them. The contracts of
-- the public functions cite crate run.
pub mod Columns
pub mod Steps
pub mod Choose
pub mod Events
pub mod Many
