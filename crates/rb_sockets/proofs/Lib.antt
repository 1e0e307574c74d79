pub mod Leavings
pub mod OnLiterals
pub mod Slices
pub mod Unwanted
