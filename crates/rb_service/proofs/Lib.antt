pub mod Begins
pub mod Endings
