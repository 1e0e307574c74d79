pub mod Dispatches
pub mod Arrivals
pub mod PlainCallers
