pub mod Numbers
pub mod Services
pub mod Refusals
pub mod Words
