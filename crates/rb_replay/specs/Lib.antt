pub mod Events
pub mod Runs
pub mod Running
pub mod Checking
