pub mod Readings
pub mod Remotes
pub mod Requests
pub mod OnLiterals
