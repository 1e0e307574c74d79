pub mod Written
pub mod Parses
pub mod Plain
