pub mod Faults
pub mod Fronts
pub mod Words
pub mod Starts
pub mod Levels
pub mod Ends
pub mod Foreign
