pub mod Flushes
pub mod Endings
