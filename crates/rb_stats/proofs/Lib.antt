pub mod Keys
pub mod Items
pub mod Entries
pub mod Writing
pub mod Sizes
pub mod Histories
pub mod OnLiterals
