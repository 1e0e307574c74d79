pub mod Removals
pub mod RowChanges
pub mod Notes
pub mod Goings
pub mod Refusing
pub mod Shown
