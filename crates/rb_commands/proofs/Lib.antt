pub mod Binds
pub mod Unrun
pub mod Asked
